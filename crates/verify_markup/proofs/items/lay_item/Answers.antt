-- `items::lay_item` meets its contract, event by event; the events of the last arm give nothing.
-- Assumes nothing.
use Rattle.verify_markup.specs.Lent.{lent_names}
use Rattle.verify_markup.proofs.DiagLaws.{writes_none}
use Rattle.verify_markup.proofs.ListLaws.{item_silent}
use Rattle.verify_markup.proofs.items.lay_item.Goals as goal

pub returns-in_default : goal.returns-in_default
returns-in_default c =
    let a = c.args in
    rw (item_silent a.buf.now (lent_names a.tables) a.html a.item (record {
      no_text = c.in_default.not-Text;
      no_start_math = c.in_default.not-StartMathMode;
      no_end_math = c.in_default.not-EndMathMode;
      no_token = c.in_default.not-MathToken;
      no_label = c.in_default.not-Label;
      no_url = c.in_default.not-Url;
      no_tag = c.in_default.not-BibTag;
    })) (writes_none _)
