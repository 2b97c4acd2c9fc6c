use Rattle.show_named.proofs.Saying.{named_of}
use Rattle.show_named.proofs.folds.Listing.named_words.Goals as goal

pub returns : goal.returns
returns c =
    let s = c.args.self.now in
    named_of s.shown s.map.now s.story.now c.args.at c.as_slice.result.now _ c.words_at-words.result _ _ c.as_slice.ensures c.requires
    c.words_at-words.ensures c.in_ok-name.ensures c.in_ok-text.ensures.ok
