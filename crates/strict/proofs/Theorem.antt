-- The theorem that specs/Strict.antt states.
-- Assumes nothing.
use mathlib.Core.List.{List}
use mathlib.Core.Option.{Option, none, some}
use mathlib.Core.Path.{◌≡◌, refl}
use Prim.Native.Nat.{ℕ}
use Rattle.byte_rules.specs.Reading.{strict}
use Rattle.comment_parser.specs.State.{fresh}
use Rattle.comment_parser.specs.Events.{seen, events_of}
use Rattle.comment_parser.specs.declared.CommentItem.{CommentItem}
use Rattle.comment_parser.specs.declared.ParserState.{ParserState}
use Rattle.comment_parser.proofs.Events.{seen_accepted, events_end}
use Rattle.strict.specs.Strict.{StrictMarksPair}
use Rattle.strict.proofs.Grammar.{outside, Told, end, final_outside, marks_pair}
use Rattle.strict.proofs.Telling.{told}

-- a span that gives an event is accepted; one that gives none has no events
told_of : (buf : List ℕ) (a b : ℕ) (o : Option (CommentItem × ParserState)) → seen strict buf (fresh strict.name a b) ≡ o → Told outside (events_of strict buf a b)
unfolding events_of
told_of buf a b none e = rw (events_end strict buf (fresh strict.name a b) e) (end final_outside)
told_of buf a b (some p) e = let k = seen_accepted strict buf (fresh strict.name a b) p e in told buf b k.fits a k.short k.inside

pub strict_marks_pair : StrictMarksPair
strict_marks_pair buf a b = marks_pair (told_of buf a b (seen strict buf (fresh strict.name a b)) refl)
