-- The header, and the lines behind it, in a buffer in which nothing waited.
use Rattle.std.proofs.Common.{◌≡◌, List, ℕ, [], length, ap, arith}
use Rattle.byte_rules.specs.Reading.{named}
use Rattle.programs.specs.Output.{waiting, gathered, Gathers}
use Rattle.programs.specs.declared.writing.Output.{Output}
use Rattle.programs.specs.declared.writing.Writer.{Writer}
use Rattle.programs.proofs.Gathering.{gathers_both}
use Rattle.listing.specs.Listing.{header, event_lines, listing}
use Rattle.listing.proofs.put_listing.Goals as goal

-- what is gathered where nothing waited is all that waits
all_of : {text : List ℕ} {w r : Writer} → Gathers text w r → w.output.used ≡ 0 → waiting r.output r.buffer.now ≡ gathered (length w.buffer.now) [] text
all_of g none = rw none at g.waits

pub returns : goal.returns
unfolding listing
returns c good =
    all_of (gathers_both header (event_lines (named c.args.reading) c.args.comment.now) c.text.ensures (c.put_events.ensures good)) (omega (arith, ap (λ (o : Output). o.used) c.new.ensures))
