use Rattle.std.proofs.Common.{rules, ◌≡◌, ◌++◌, ℕ, List, Option, None, codes, subst, sym}
use Rattle.report_command.proofs.Spelled.{GivesNumber, hexadecimal, in_range, negative, no_negative, plain, small}
use Rattle.report_command.proofs.values.number_in.Goals as goal

pub returns-in-Some-clause-range : goal.returns-in-Some-clause-range
returns-in-Some-clause-range c = in_range c.digits_in.result 16 c.in-Some.digits.now c.args.most c.digits_in.ensures

pub returns-in-Some-clause-writes : goal.returns-in-Some-clause-writes
returns-in-Some-clause-writes c =
    let is : c.args.text.now ≡ codes "0x" ++ c.in-Some.digits.now = search rules in
    hexadecimal c.args.text.now c.in-Some.digits.now c.args.most c.digits_in.result is c.digits_in.ensures

pub returns-in_default-strip_prefix-clause-range :
    goal.returns-in_default-strip_prefix-clause-range
returns-in_default-strip_prefix-clause-range c =
    in_range c.digits_in-in_default-strip_prefix.result 10 c.args.text.now c.args.most c.digits_in-in_default-strip_prefix.ensures

pub returns-in_default-strip_prefix-clause-writes :
    goal.returns-in_default-strip_prefix-clause-writes
returns-in_default-strip_prefix-clause-writes c =
    let no_hex : (ds : List ℕ) → c.args.text.now ≡ codes "0x" ++ ds → ⊥ = search rules in
    let no_minus : (ds : List ℕ) → c.args.text.now ≡ codes "-" ++ ds → ⊥ = search rules in
    plain c.args.text.now c.args.most c.digits_in-in_default-strip_prefix.result no_hex no_minus
    c.digits_in-in_default-strip_prefix.ensures

pub returns-in_err-size-clause-writes : goal.returns-in_err-size-clause-writes
returns-in_err-size-clause-writes c =
    let is : c.args.text.now ≡ codes "-" ++ c.in-Some-strip_prefix.digits.now = search rules in
    let none : c.from_residual.result ≡ None = search rules in
    subst (λ (o : Option ℕ). GivesNumber o c.args.text.now c.args.most) (sym none)
    (no_negative c.args.text.now c.in-Some-strip_prefix.digits.now c.args.most c.digits_in-2.result is c.digits_in-2.ensures
    c.in_err-size.was)

pub negated-requires : goal.negated-requires
negated-requires c =
    let is : c.args.text.now ≡ codes "-" ++ c.in-Some-strip_prefix.digits.now = search rules in
    small c.args.text.now c.in-Some-strip_prefix.digits.now c.args.most c.digits_in-2.result is c.digits_in-2.ensures
    c.in_ok-size.size 0 c.in_ok-size.was

pub returns-clause-writes : goal.returns-clause-writes
returns-clause-writes c =
    let is : c.args.text.now ≡ codes "-" ++ c.in-Some-strip_prefix.digits.now = search rules in
    negative c.args.text.now c.in-Some-strip_prefix.digits.now c.args.most c.digits_in-2.result is c.digits_in-2.ensures
    c.in_ok-size.size c.negated.result c.in_ok-size.was c.negated.ensures
