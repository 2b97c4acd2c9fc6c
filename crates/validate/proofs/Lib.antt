pub mod TableLaws
pub mod OperandLaws
