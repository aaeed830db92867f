-- `mask` meets its contract: antt computes the masks of the bytes 0 to 255, once, and holds them against the table of the code.
-- Assumes nothing.
use mathlib.Core.Path.{◌≡◌}
use Rattle.byte_rules.specs.Classes.{is_blank, is_closer, is_italic_opener, is_digit, is_capital, is_small, is_alphanumeric}
use Rattle.byte_rules.specs.Masks.{bits, mask_of}
use Rattle.byte_rules.proofs.MaskLaws.{masks_from, mask_at}
use borrow.Author.Rules.{rules}
use Rattle.byte_rules.proofs.classes.mask.Goals as goal

pub returns : goal.returns
unfolding masks_from mask_of bits is_blank is_closer is_italic_opener is_digit is_capital is_small is_alphanumeric
returns c = let here : c.from.result ≡ c.args.c = search rules in rw here (mask_at 256 c.args.c (search rules))
