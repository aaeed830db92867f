-- The line of each diagnostic fits a word: its first number is the place of a byte, or of an event.
-- Assumes nothing.
use Prim.Native.Nat.{ℕ, zero, suc, ◌+◌, ◌-◌, ◌≤◌}
use mathlib.Core.Path.{◌≡◌, refl}
use Rattle.std.specs.Prelude.{Option, Some, None}
use mathlib.Core.Bool.{Bool, true, false, cond, ◌||◌}
use mathlib.Core.List.Memᴰ
use mathlib.Core.List.{List, [], ◌∷◌, ◌++◌}
use native.Mathlib.Omega.{arith}
use lib.Dec.{ltb, eqb}
use lib.ListN.{length, take}
use lib.Seq.{length-take-le}
use borrow.Author.Tests.{eqb-false}
use Rattle.basics.specs.declared.Span.{Span}
use Rattle.basics.specs.Member.{In}
use Rattle.basics.proofs.Laws.{both, either}
use Rattle.byte_rules.specs.Reading.{Reading}
use Rattle.look.specs.Look.{byte_at}
use Rattle.look.proofs.Laws.{holds_within, byte_within}
use Rattle.scans.specs.Marks.{tick, tilde}
use Rattle.unescape.specs.Unescape.{is_escape, step_at, unescaped, part}
use Rattle.unescape.specs.declared.Escape.{Escape}
use Rattle.unescape.specs.declared.Escape.TheVariants as escape
use Rattle.name_table.specs.Search.{Lookup, is_missing}
use Rattle.records.specs.Answer.{longest}
use Rattle.records.proofs.Laws.{Wide}
use Rattle.lines.proofs.Laws.{Fits, fits_inside}
use Rattle.lines.proofs.Filling.{AllFit, fit_append}
use Rattle.comment_parser.specs.Item.{placed_of}
use Rattle.comment_parser.specs.Bounds.{Within}
use Rattle.comment_parser.specs.Events.{events_of}
use Rattle.comment_parser.specs.declared.CommentItem.{CommentItem}
use Rattle.comment_parser.specs.declared.CommentItem.TheVariants.{Text, LineBreak, StartMathMode, EndMathMode, MathToken, Label, Url, StartHtml, EndHtml, StartSubscript, EndSubscript, StartItalic, EndItalic, BibTag}
use Rattle.comment_parser.proofs.Reached.{every_within}
use Rattle.events.proofs.Laws.{event_fits}
use Rattle.verify_markup.specs.Diag.{diag_width, diag, when, of_some, uninterpreted_html, nonblank_at, nonblank_before, space_before, space_after, uninterpreted_escape, empty_label, unknown_label, unclosed_math_markup, unclosed_html, bib_escape}
use Rattle.verify_markup.specs.Texts.{is_reported, lone_at, lone_from, html_from, html_in, written}
use Rattle.verify_markup.specs.Items.{Names, Tags, no_tag, token_diags, tilde_diags, link_diags, name_diags, label_diags, bib_escapes, tag_diags, item_diags}
use Rattle.verify_markup.specs.List.{is_open, closed, modes_after, unclosed, last_diags, diags_from, diagnostics}
use Rattle.verify_markup.specs.Bounds.{OpenedBy}
use Rattle.verify_markup.specs.declared.Modes.{Modes}
use Rattle.verify_markup.proofs.DiagLaws.{wide_append}
use Rattle.verify_markup.proofs.TextLaws.{MarkWithin, html_within}
use Rattle.verify_markup.proofs.ItemLaws.{few_item}
use Rattle.verify_markup.proofs.ListLaws.{OpenedBoth, opened_after, few_last}

module _ (buf : List ℕ) (short : length buf ≤ longest) where
  -- a diagnostic that is there by a test
  fit_when : (t : Bool) (kind a b c : ℕ) → (t ≡ true → Fits buf a) → AllFit buf (when t (diag kind a b c))
  fit_when true kind a b c f = (f refl, tt)
  fit_when false kind a b c f = tt

  -- ---- texts

  fit_lone : (kind : Escape) (e turns i : ℕ) → AllFit buf (lone_from buf kind e turns i)
  unfolding lone_from lone_at
  fit_lone kind e zero i = tt
  fit_lone kind e (suc turns) i = go (ltb i e) (lone_from buf kind e turns (i + step_at (is_escape kind) buf i)) (fit_lone kind e turns (i + step_at (is_escape kind) buf i))
    where
      one : AllFit buf (when (lone_at buf kind i) (uninterpreted_escape i))
      one = fit_when (lone_at buf kind i) 2 i 0 0 (λ t. fits_inside buf i (holds_within (is_reported kind) buf i (both _ _ t).0) short)

      go : (b : Bool) (rest : List (List ℕ)) → AllFit buf rest → AllFit buf (cond b (when (lone_at buf kind i) (uninterpreted_escape i) ++ rest) [])
      go true rest ih = fit_append buf (when (lone_at buf kind i) (uninterpreted_escape i)) rest one ih
      go false rest ih = tt

  module _ (a e : ℕ) (order : a ≤ e) (inside : e ≤ length buf) where
    fit_html : AllFit buf (html_in buf a e)
    unfolding html_in
    fit_html =
        let long : length (take e buf) ≡ e = length-take-le e buf inside in
        go (html_from (take e buf) (e - a) a) (html_within (take e buf) (e - a) a (omega arith))
      where
        go : (m : Option Span) → MarkWithin (take e buf) m → AllFit buf (of_some (λ x. uninterpreted_html x.start x.end) m)
        go (Some m) w = (fits_inside buf m.start (omega (arith, w.0, length-take-le e buf inside)) short, tt)
        go None w = tt

    fit_written : (kind : Escape) → AllFit buf (written buf kind a e)
    unfolding written
    fit_written kind = fit_append buf (lone_from buf kind e (e - a) a) (html_in buf a e) (fit_lone kind e (e - a) a) fit_html

    fit_name : (label : Lookup) (i : ℕ) → Fits buf i → AllFit buf (name_diags buf label i a e)
    unfolding name_diags
    fit_name label i f = go (eqb a e) refl
      where
        missing : Bool
        missing = is_missing (label (unescaped (is_escape escape.Label) (part buf a e)))

        go : (b : Bool) → eqb a e ≡ b → AllFit buf (cond b (empty_label i ∷ []) (when missing (unknown_label a e)))
        go true x = (f, tt)
        go false x = fit_when missing 6 a e 0 (λ _. fits_inside buf a (omega (arith, eqb-false a e x)) short)

  -- ---- events

  fit_escapes : (a e left i : ℕ) → AllFit buf (bib_escapes buf a e left i)
  unfolding bib_escapes
  fit_escapes a e zero i = tt
  fit_escapes a e (suc left) i =
      let t = byte_at buf i tick in
      let u = byte_at buf i tilde in
      fit_append buf (when (t || u) (bib_escape i a e)) (bib_escapes buf a e left (i + 1))
      (fit_when (t || u) 7 i a e (λ h. fits_inside buf i (either t u h (byte_within buf i tick) (byte_within buf i tilde)) short))
      (fit_escapes a e left (i + 1))

  module _ (i : ℕ) (f : Fits buf i) where
    fit_before : AllFit buf (space_before buf i)
    fit_before = fit_when (nonblank_before buf i) 1 i 0 0 (λ _. f)

    fit_after : AllFit buf (space_after buf i)
    fit_after = fit_when (nonblank_at buf (i + 1)) 1 i 0 0 (λ _. f)

    fit_link : (a e : ℕ) → a ≤ e → e ≤ length buf → AllFit buf (link_diags buf i a e)
    unfolding link_diags tilde_diags
    fit_link a e h k = fit_append buf (tilde_diags buf i) (written buf escape.Label a e) (fit_append buf (space_before buf i) (space_after buf i) fit_before fit_after) (fit_written a e h k escape.Label)

    fit_label : (label : Lookup) (a e : ℕ) → a ≤ e → e ≤ length buf → AllFit buf (label_diags buf label i a e)
    unfolding label_diags
    fit_label label a e h k = fit_append buf (link_diags buf i a e) (name_diags buf label i a e) (fit_link a e h k) (fit_name a e h k label i f)

    fit_token : (symbol : Lookup) (e : ℕ) → AllFit buf (token_diags buf symbol i e)
    unfolding token_diags
    fit_token symbol e = fit_when (is_missing (symbol (unescaped (is_escape escape.Math) (part buf i e)))) 4 i e 0 (λ _. f)

    fit_tag : (tags : Tags) (e : ℕ) → AllFit buf (tag_diags buf tags i e)
    unfolding tag_diags
    fit_tag tags e = fit_append buf (bib_escapes buf i e (e - i) i) _ (fit_escapes i e (e - i) i) (fit_when (no_tag tags (part buf i e)) 8 i e 0 (λ _. f))

  fit_item : (n : Names) (html : Bool) (i : CommentItem) → Fits buf (placed_of i).place → Within 0 (length buf) (placed_of i) → AllFit buf (item_diags buf n html i)
  fit_item n html (Text s) f w = fit_written s.start s.end w.ordered w.below (escape.Text html)
  fit_item n html (LineBreak i) f w = tt
  fit_item n html (StartMathMode i) f w = fit_after i f
  fit_item n html (EndMathMode i) f w = fit_before i f
  fit_item n html (MathToken s) f w = fit_token s.start f n.symbol s.end
  fit_item n html (Label i s) f w = fit_label i f n.label s.start s.end w.ordered w.below
  fit_item n html (Url i s) f w = fit_link i f s.start s.end w.ordered w.below
  fit_item n html (StartHtml i) f w = tt
  fit_item n html (EndHtml i) f w = tt
  fit_item n html (StartSubscript i) f w = tt
  fit_item n html (EndSubscript i) f w = tt
  fit_item n html (StartItalic i) f w = tt
  fit_item n html (EndItalic i) f w = tt
  fit_item n html (BibTag s) f w = fit_tag s.start f n.tags s.end

  -- ---- the list

  fit_unclosed : (kind end : ℕ) (p : Option ℕ) → OpenedBy (Fits buf) p → AllFit buf (unclosed (λ i e. diag kind i e 0) end p)
  fit_unclosed kind end (Some i) f = (f, tt)
  fit_unclosed kind end None f = tt

  fit_last : (end : ℕ) (m : Modes) → OpenedBoth (Fits buf) m → AllFit buf (last_diags end m)
  unfolding last_diags
  fit_last end m o = fit_append buf (unclosed unclosed_math_markup end m.math) (unclosed unclosed_html end m.html) (fit_unclosed 9 end m.math o.0) (fit_unclosed 10 end m.html o.1)

  module _ (end : ℕ) (n : Names) where
    fit_diags : (m : Modes) (is : List CommentItem) → OpenedBoth (Fits buf) m
        → ((i : CommentItem) → In i is → Fits buf (placed_of i).place) → ((i : CommentItem) → In i is → Within 0 (length buf) (placed_of i)) → AllFit buf (diags_from buf end n m is)
    unfolding diags_from
    fit_diags m [] o f w = fit_last end m o
    fit_diags m (i ∷ is) o f w =
        let here = Memᴰ.head refl in
        fit_append buf (item_diags buf n (is_open m.html) i) (diags_from buf end n (modes_after m i) is)
        (fit_item n (is_open m.html) i (f i here) (w i here))
        (fit_diags (modes_after m i) is (opened_after (Fits buf) m i (f i here) o) (λ j k. f j (Memᴰ.tail k)) (λ j k. w j (Memᴰ.tail k)))

  pub diagnostics_fit : (rd : Reading) (n : Names) (start end : ℕ) → AllFit buf (diagnostics rd n buf start end)
  unfolding diagnostics
  diagnostics_fit rd n start end = fit_diags end n closed (events_of rd buf start end) (tt, tt) (event_fits rd buf short start end) (every_within rd buf start end)

-- and each has the width of a record
module _ (buf : List ℕ) (end : ℕ) (n : Names) where
  pub wide_diags : (m : Modes) (is : List CommentItem) → Wide diag_width (diags_from buf end n m is)
  unfolding diags_from
  wide_diags m [] = (few_last end m).wide
  wide_diags m (i ∷ is) = wide_append (item_diags buf n (is_open m.html) i) (diags_from buf end n (modes_after m i) is) (few_item buf n (is_open m.html) i).wide (wide_diags (modes_after m i) is)

pub diagnostics_wide : (rd : Reading) (n : Names) (buf : List ℕ) (start end : ℕ) → Wide diag_width (diagnostics rd n buf start end)
unfolding diagnostics
diagnostics_wide rd n buf start end = wide_diags buf end n closed (events_of rd buf start end)
