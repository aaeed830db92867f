-- Plain bytes give no diagnostic of a text or a label: none of them is an escape byte, and none begins an HTML mark.
-- Assumes nothing.
use Prim.Native.Nat.{ℕ, ◌+◌, ◌-◌, ◌≤◌, ◌<◌}
use mathlib.Core.Path.{◌≡◌, sym, ◌∙◌}
use Rattle.std.specs.Prelude.{None}
use mathlib.Core.Bool.{false}
use mathlib.Core.List.{List}
use native.Mathlib.Omega.{arith}
use lib.ListN.{length, get_or, take}
use lib.Seq.{get_or-take, length-take-le}
use Rattle.byte_rules.proofs.Laws.{upper_not}
use Rattle.look.specs.Look.{holds_at}
use Rattle.look.proofs.Laws.{holds_in}
use Rattle.scans.specs.Marks.{less}
use Rattle.scans.specs.Plain.{active_at, plain_step, plain_end}
use Rattle.scans.proofs.Laws.{by_less, scan_end}
use Rattle.scans.proofs.PlainLaws.{plain_byte, run_keeps}
use Rattle.unescape.specs.Unescape.{is_escape, step_at}
use Rattle.unescape.specs.declared.Escape.{Escape}
use Rattle.unescape.specs.declared.Escape.TheVariants.{Text, Label, Math}
use Rattle.unescape.proofs.Laws.{step_plain}
use Rattle.unescape.proofs.Runs.{no_escape}
use Rattle.verify_markup.specs.Texts.{is_reported, is_letter, folded_at, html_len, html_from, lone_at, lone_from}
use Rattle.verify_markup.proofs.TextLaws.{lone_on, lone_ends, html_on, html_over}

-- ---- escapes: what is reported is an escape

reported_not : (kind : Escape) (c : ℕ) → is_escape kind c ≡ false → is_reported kind c ≡ false
unfolding is_reported
reported_not (Text html) c e = rw e
reported_not Label c e = e
reported_not Math c e = e

-- a span of the buffer up to e
module _ (buf : List ℕ) (kind : Escape) (e : ℕ) (fits : e ≤ length buf) where
  abbrev text : List ℕ
  text = take e buf

  whole : length text ≡ e
  whole = length-take-le e buf fits

  abbrev lones : ℕ → List (List ℕ)
  lones i = lone_from buf kind e (e - i) i

  plain_lone : (k : ℕ) → k < length text → active_at text k ≡ false → lones k ≡ lones (k + 1)
  unfolding lone_at
  plain_lone k h m =
      let l : k < e = omega (arith, whole) in
      let esc : is_escape kind (get_or buf k 0) ≡ false = rw (get_or-take e buf k 0 l) at (no_escape kind text k h m) in
      let one : step_at (is_escape kind) buf k ≡ 1 = step_plain (is_escape kind) buf k esc in
      let none : lone_at buf kind k ≡ false = rw (lone_at, holds_in (is_reported kind) buf k (omega arith), reported_not kind (get_or buf k 0) esc) in
      lone_on buf kind e k l ∙ rw (none, one)

  -- no lone escape stands among plain bytes
  pub lone_skip : (i p : ℕ) → p ≡ plain_end text i → lones i ≡ lones p
  lone_skip i p z =
      by_less e i
      (λ h.
      let y : p ≡ e = z ∙ scan_end (plain_step text) (length text) i (omega (arith, whole)) ∙ whole in
      lone_ends buf kind e i (omega arith) ∙ sym (lone_ends buf kind e p (omega arith)))
      (λ h. rw z (run_keeps text lones plain_lone i (omega (arith, whole))))

-- ---- HTML marks: each begins with a `<`

module _ (s : List ℕ) where
  module _ (k : ℕ) (h : k < length s) (m : active_at s k ≡ false) where
    no_letter : holds_at (is_letter less) s k ≡ false
    unfolding is_letter
    no_letter = holds_in (is_letter less) s k h ∙ upper_not less (get_or s k 0) (omega arith) (plain_byte s k h m).not_2

    plain_html : None ≡ html_len s k
    unfolding html_len folded_at
    plain_html = rw (html_len, no_letter)

  -- no HTML mark begins among plain bytes
  pub html_skip : (i p : ℕ) → p ≡ plain_end s i → html_from s (length s - i) i ≡ html_from s (length s - p) p
  html_skip i p z =
      by_less (length s) i
      (λ h. let y : p ≡ length s = z ∙ scan_end (plain_step s) (length s) i (omega arith) in sym (html_over s i (omega arith)) ∙ html_over s p (omega arith))
      (λ h. rw z (run_keeps s (λ k. html_from s (length s - k) k) (λ k l m. html_on s k l (plain_html k l m)) i h))
