-- `answers::first::taken` meets its contract. Each step is promised word by word, and the bytes of y and of the rest lie one after the other.
-- Assumes nothing.
use mathlib.Core.Path.{refl}
use lib.ListN.{length}
use Rattle.answers.proofs.Turning.{summed, held_group}
use Rattle.answers.proofs.first.taken.Goals as goal

pub returns : goal.returns
returns c = λ g αs ys ws packs ia iy iw.
    let m = length c.args.x.now in
    record {
      absorbs = c.absorb_group.ensures _ packs;
      alpha = summed g m αs _ _ _ c.requires.4 refl c.add_words.ensures ia;
      second_form = summed g m ys _ _ _ c.requires.5 c.requires.2 c.add_words-2.ensures iy;
      rest = summed g m ws _ _ _ c.requires.6 c.requires.3 c.add_words-3.ensures iw;
      kept = held_group g m ys ws _ _ c.args.part.now c.store_words.new.bytes c.store_words-2.new.bytes _ _ refl refl c.requires.7 c.requires.2 c.requires.3 c.store_words.auto.bytes c.store_words-2.auto.bytes
          c.store_words.ensures.elements c.store_words-2.ensures.elements iy iw;
    }
