use Rattle.std.proofs.Common.{ℕ, ◌+◌, ◌%◌, ◌^◌, subst, mod-lt, bit_and, bit_or, bit_xor, arith}
use Rattle.std.proofs.lemmas.Nat.{pow_pos, and_le_l, or_lt, xor_lt}
use Rattle.word_row.specs.Answers.{after_single, IsMadeBy}
use Rattle.word_row.specs.declared.single.Single.{Single}
use Rattle.word_row.proofs.Standing.{changing}
use Rattle.word_row.proofs.steps.fetch.Goals as goal

pub swap-requires : goal.swap-requires
swap-requires g c =
    let new : ℕ = c.in-Swap.new in
    let makes : IsMadeBy c.args.event (λ _. new) = subst (λ (s : Single). IsMadeBy c.args.event (after_single s)) c.in-Swap.is c.requires.makes in
    changing g.B.Naming.table c.caller.inside.place.table_id c.args.row.now.table_id g.B.Naming.opening c.args.row.now.key
    c.caller.inside.name c.caller.inside.place.me c.args.caller.now c.caller.view_is c.caller.invariant c.requires.row
    c.caller.inside.place.id g.M.Making.event c.args.event c.requires.making c.requires.event
    c.word_place-word.result c.word_place-word.ensures c.requires.within c.requires.right (λ _. new) (λ n small. omega arith) makes

pub fetch_add-requires : goal.fetch_add-requires
fetch_add-requires g c =
    let more : ℕ = c.in-Add.more in
    let makes : IsMadeBy c.args.event (λ n. (n + more) % 2 ^ 64) = subst (λ (s : Single). IsMadeBy c.args.event (after_single s)) c.in-Add.is
    c.requires.makes in
    changing g.B.Naming.table c.caller.inside.place.table_id c.args.row.now.table_id g.B.Naming.opening c.args.row.now.key
    c.caller.inside.name c.caller.inside.place.me c.args.caller.now c.caller.view_is c.caller.invariant c.requires.row
    c.caller.inside.place.id g.M.Making.event c.args.event c.requires.making c.requires.event
    c.word_place-word.result c.word_place-word.ensures c.requires.within c.requires.right (λ n. (n + more) % 2 ^ 64)
    (λ n small. mod-lt (n + more) (pow_pos 64)) makes

pub fetch_and-requires : goal.fetch_and-requires
fetch_and-requires g c =
    let bits : ℕ = c.in-And.bits in
    let makes : IsMadeBy c.args.event (λ n. bit_and n bits) = subst (λ (s : Single). IsMadeBy c.args.event (after_single s)) c.in-And.is c.requires.makes in
    changing g.B.Naming.table c.caller.inside.place.table_id c.args.row.now.table_id g.B.Naming.opening c.args.row.now.key
    c.caller.inside.name c.caller.inside.place.me c.args.caller.now c.caller.view_is c.caller.invariant c.requires.row
    c.caller.inside.place.id g.M.Making.event c.args.event c.requires.making c.requires.event
    c.word_place-word.result c.word_place-word.ensures c.requires.within c.requires.right (λ n. bit_and n bits) (λ n small. let e = and_le_l n bits in
    omega arith) makes

pub fetch_or-requires : goal.fetch_or-requires
fetch_or-requires g c =
    let bits : ℕ = c.in-Or.bits in
    let makes : IsMadeBy c.args.event (λ n. bit_or n bits) = subst (λ (s : Single). IsMadeBy c.args.event (after_single s)) c.in-Or.is c.requires.makes in
    changing g.B.Naming.table c.caller.inside.place.table_id c.args.row.now.table_id g.B.Naming.opening c.args.row.now.key
    c.caller.inside.name c.caller.inside.place.me c.args.caller.now c.caller.view_is c.caller.invariant c.requires.row
    c.caller.inside.place.id g.M.Making.event c.args.event c.requires.making c.requires.event
    c.word_place-word.result c.word_place-word.ensures c.requires.within c.requires.right (λ n. bit_or n bits)
    (λ n small. or_lt 64 n bits small (omega arith)) makes

pub fetch_xor-requires : goal.fetch_xor-requires
fetch_xor-requires g c =
    let bits : ℕ = c.in-Xor.bits in
    let makes : IsMadeBy c.args.event (λ n. bit_xor n bits) = subst (λ (s : Single). IsMadeBy c.args.event (after_single s)) c.in-Xor.is c.requires.makes in
    changing g.B.Naming.table c.caller.inside.place.table_id c.args.row.now.table_id g.B.Naming.opening c.args.row.now.key
    c.caller.inside.name c.caller.inside.place.me c.args.caller.now c.caller.view_is c.caller.invariant c.requires.row
    c.caller.inside.place.id g.M.Making.event c.args.event c.requires.making c.requires.event
    c.word_place-word.result c.word_place-word.ensures c.requires.within c.requires.right (λ n. bit_xor n bits)
    (λ n small. xor_lt 64 n bits small (omega arith)) makes
