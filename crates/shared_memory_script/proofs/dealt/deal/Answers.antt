use Rattle.std.proofs.Common.{reverse}
use Rattle.shared_memory_on_table.specs.Callers.{fresh, fresh_from}
use Rattle.shared_memory_script.proofs.Dealing.{popped, turned_callers}
use Rattle.shared_memory_script.proofs.dealt.deal.Goals as goal

pub returns-clause-desk : goal.returns-clause-desk
returns-clause-desk g c =
    let p1 = popped (λ s. s.caller) _ _ _ (fresh_from 64 0) (fresh 64) c.requires c.in_ok-desk.ensures.items in
    p1.taken

pub returns-clause-zero : goal.returns-clause-zero
returns-clause-zero g c =
    let p1 = popped (λ s. s.caller) _ _ _ (fresh_from 64 0) (fresh 64) c.requires c.in_ok-desk.ensures.items in
    let around = turned_callers (λ s. s.caller) _ _ (fresh_from 64 0) p1.left c.reverse.ensures.items in
    let p2 = popped (λ s. s.caller) _ _ _ (reverse (fresh_from 63 1)) (fresh 0) around c.in_ok-zero.ensures.items in
    p2.taken

pub returns-clause-one : goal.returns-clause-one
returns-clause-one g c =
    let p1 = popped (λ s. s.caller) _ _ _ (fresh_from 64 0) (fresh 64) c.requires c.in_ok-desk.ensures.items in
    let around = turned_callers (λ s. s.caller) _ _ (fresh_from 64 0) p1.left c.reverse.ensures.items in
    let p2 = popped (λ s. s.caller) _ _ _ (reverse (fresh_from 63 1)) (fresh 0) around c.in_ok-zero.ensures.items in
    let p3 = popped (λ s. s.caller) _ _ _ (reverse (fresh_from 62 2)) (fresh 1) p2.left c.in_ok-one.ensures.items in
    p3.taken

pub returns-clause-two : goal.returns-clause-two
returns-clause-two g c =
    let p1 = popped (λ s. s.caller) _ _ _ (fresh_from 64 0) (fresh 64) c.requires c.in_ok-desk.ensures.items in
    let around = turned_callers (λ s. s.caller) _ _ (fresh_from 64 0) p1.left c.reverse.ensures.items in
    let p2 = popped (λ s. s.caller) _ _ _ (reverse (fresh_from 63 1)) (fresh 0) around c.in_ok-zero.ensures.items in
    let p3 = popped (λ s. s.caller) _ _ _ (reverse (fresh_from 62 2)) (fresh 1) p2.left c.in_ok-one.ensures.items in
    let p4 = popped (λ s. s.caller) _ _ _ (reverse (fresh_from 61 3)) (fresh 2) p3.left c.in_ok-two.ensures.items in
    p4.taken
