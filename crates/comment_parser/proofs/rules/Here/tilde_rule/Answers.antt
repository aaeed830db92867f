-- `tilde_rule` meets its contract: the label's text lies in the text.
-- Assumes nothing.
use Rattle.scans.proofs.Laws.{scan_le}
use Rattle.comment_parser.proofs.rules.Here.tilde_rule.Goals as goal

pub label_item-requires : goal.label_item-requires
label_item-requires c = let w = c.label_end-b.ensures.within in (w.0, w.1 (rw c.blanks_end-a.ensures (scan_le _ _ _)))
