-- There is room for the text: it is copied behind what waits.
use Rattle.std.proofs.Common.{arith, ◌+◌, ◌-◌, refl, length}
use Rattle.std.proofs.lemmas.Slice.{put_mid-paste}
use Rattle.std.proofs.lemmas.List.Edits.{length-paste}
use Rattle.programs.proofs.Gathering.{copied}
use Rattle.programs.proofs.writing.Writer.text.Goals as goal

pub returns-then-text-saturating_sub : goal.returns-then-text-saturating_sub
returns-then-text-saturating_sub c =
    let text = c.args.text.now in
    let buffer = c.args.self.now.buffer.now in
    let used = c.args.self.now.output.used in
    let written = put_mid-paste used (used + length text - used) buffer c.copy_from_slice.new.self text (length text) c.copy_from_slice.ensures.after (omega arith) refl in
    record {
      waits = rw written (copied buffer used text (omega arith));
      kept = λ h. h;
      buffer = record { name = refl; long = rw written (length-paste buffer used text (length text) (omega arith) (omega arith)) };
    }
