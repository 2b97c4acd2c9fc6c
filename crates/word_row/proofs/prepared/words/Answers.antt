use Rattle.std.proofs.Common.{ℕ, ◌≡◌, ◌+◌, ◌*◌, ◌++◌, ◌∷◌, [], List, length, take, drop, sym, ap, ◌∙◌, arith, length-append}
use Rattle.std.proofs.lemmas.List.{take_all}
use Rattle.shared_memory.specs.Numbers.{le_number}
use Rattle.shared_memory.specs.Memory.{Memory}
use Rattle.word_row.specs.Words.{words_of}
use Rattle.word_row.proofs.Memories.{length-words_of}
use Rattle.word_row.proofs.Settling.{words_of-more}
use Rattle.word_row.proofs.prepared.words.Goals as goal

pub loop-k-preserved : goal.loop-k-preserved
loop-k-preserved c =
    let m : Memory = c.args.memory.now in
    let k : ℕ = c.loop-k.k in
    let i = c.loop-k.invariant in
    let pushed = c.push_reserved-in-loop-k.ensures.items in
    let word : c.word_at.result ≡ le_number (take 8 (drop (8 * k) m.bytes)) = c.word_at.ensures.word
    ∙ ap (λ (x : Memory). le_number (take 8 (drop (8 * k) x.bytes))) i.same in
    let items = pushed ∙ ap (λ (x : ℕ). c.loop-k.words.items ++ x ∷ []) word ∙ ap (λ (l : List ℕ). l ++ le_number (take 8 (drop (8 * k) m.bytes)) ∷ []) i.items
    ∙ sym (words_of-more m k (omega (arith, c.max.ensures))) in
    record {
      items = items;
      count = ap length pushed ∙ (let e = length-append c.loop-k.words.items (c.word_at.result ∷ []) in let n = i.count in omega arith);
      same = c.word_at.ensures.same ∙ i.same;
      room = let r = i.room in let q = c.push_reserved-in-loop-k.ensures.capacity in omega arith;
    }

pub returns-clause-words : goal.returns-clause-words
returns-clause-words c =
    let m : Memory = c.args.memory.now in
    c.loop-k.invariant.items ∙ take_all (c.loop-k.k + 1) (words_of m) (let e = length-words_of m in omega (arith, e, c.max.ensures, c.loop-k-test.false))
