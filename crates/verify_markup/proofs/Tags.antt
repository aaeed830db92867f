-- Which tags are reported: records of kind 8 are those of the undefined tags; no bibliography means an empty one; the named choice leaves kind 8 out.
-- Assumes nothing.
use Prim.Native.Nat.{ℕ, zero, suc, ◌+◌, ◌-◌}
use mathlib.Core.Path.{◌≡◌, refl, sym, ap, ◌∙◌, fun_ext}
use Rattle.std.specs.Prelude.{Option, Some, None}
use mathlib.Core.Bool.{Bool, true, false, cond, ◌||◌}
use mathlib.Core.List.Memᴰ
use mathlib.Core.List.{List, [], ◌∷◌, ◌++◌}
use mathlib.Core.Logic.{◌⊎◌, inl, inr}
use native.Mathlib.Omega.{arith}
use lib.Dec.{ltb, eqb}
use lib.ListN.{take}
use borrow.Author.Tests.{ne_eqb}
use Rattle.basics.specs.declared.Span.{Span}
use Rattle.basics.specs.Member.{In}
use Rattle.basics.proofs.Laws.{differ}
use Rattle.look.specs.Look.{byte_at}
use Rattle.scans.specs.Marks.{tick, tilde}
use Rattle.lines.specs.Lines.{line_of, with_line, lined}
use Rattle.unescape.specs.Unescape.{is_escape, step_at, unescaped, part}
use Rattle.unescape.specs.declared.Escape.{Escape}
use Rattle.unescape.specs.declared.Escape.TheVariants as escape
use Rattle.name_table.specs.Search.{Lookup, is_missing, entry_of}
use Rattle.name_table.proofs.Laws.{empty_good, empty_missing}
use Rattle.comment_parser.specs.Item.{span}
use Rattle.comment_parser.specs.Events.{events_of}
use Rattle.comment_parser.specs.declared.CommentItem.{CommentItem}
use Rattle.comment_parser.specs.declared.CommentItem.TheVariants.{Text, LineBreak, StartMathMode, EndMathMode, MathToken, Label, Url, StartHtml, EndHtml, StartSubscript, EndSubscript, StartItalic, EndItalic, BibTag}
use Rattle.verify_markup.specs.Diag.{when, of_some, nonblank_at, nonblank_before, space_before, space_after, uninterpreted_escape, uninterpreted_html, empty_label, unknown_label, undefined_bib_tag, unclosed_math_markup, unclosed_html, bib_escape}
use Rattle.verify_markup.specs.Texts.{lone_at, lone_from, html_from, html_in, written}
use Rattle.verify_markup.specs.Items.{Names, looked_up, not_looked_up, no_tag, token_diags, tilde_diags, link_diags, name_diags, label_diags, bib_escapes, tag_diags, item_diags}
use Rattle.verify_markup.specs.List.{is_open, closed, modes_after, unclosed, last_diags, diags_from, diagnostics}
use Rattle.verify_markup.specs.Check.{lent, not_lent, no_tag_lookup, Tables, table, tables, tables_refusal, check_refusal, names_of}
use Rattle.verify_markup.specs.Tags.{kind_of, other_kinds, ReportedExactly, SameCheck, WithoutIsEmpty, EveryTag, NothingElse, NoEight, NotLookedAt}
use Rattle.verify_markup.specs.declared.Modes.{Modes}

-- ---- records of other kinds

-- no record has kind 8
abbrev Others : List (List ℕ) → Type 0
Others ws = (w : List ℕ) → In w ws → kind_of w ≡ 8 → ⊥

others_none : Others []
others_none w m k = Memᴰ.not-nil m

others_append : (ws : List (List ℕ)) {vs : List (List ℕ)} → Others ws → Others vs → Others (ws ++ vs)
others_append ws {vs} p q w m k = go (Memᴰ.append_cases ws m)
  where
    go : In w ws ⊎ In w vs → ⊥
    go (inl h) = p w h k
    go (inr h) = q w h k

-- a record that is there by a test
when_in : (t : Bool) (v w : List ℕ) → In w (when t v) → (w ≡ v) × (t ≡ true)
when_in true v w m = (Memᴰ.eq_of_singleton m, refl)
when_in false v w m = absurd (Memᴰ.not-nil m)

others_when : (t : Bool) (v : List ℕ) → (kind_of v ≡ 8 → ⊥) → Others (when t v)
others_when t v d w m k = d (rw (← (when_in t v w m).0) k)

-- such records stay when kind 8 is left out; of two lists, one behind the other, it is left out of each
kept : (ws : List (List ℕ)) → Others ws → other_kinds ws ≡ ws
unfolding other_kinds
kept [] p = refl
kept (w ∷ ws) p = rw (ne_eqb (kind_of w) 8 (p w (Memᴰ.head refl)), kept ws (λ v m. p v (Memᴰ.tail m)))

kinds_append : (ws vs : List (List ℕ)) → other_kinds (ws ++ vs) ≡ other_kinds ws ++ other_kinds vs
unfolding other_kinds
kinds_append [] vs = refl
kinds_append (w ∷ ws) vs = go (eqb (kind_of w) 8) (kinds_append ws vs)
  where
    go : (b : Bool) → other_kinds (ws ++ vs) ≡ other_kinds ws ++ other_kinds vs → cond b (other_kinds (ws ++ vs)) (w ∷ other_kinds (ws ++ vs)) ≡ cond b (other_kinds ws) (w ∷ other_kinds ws) ++ other_kinds vs
    go true h = h
    go false h = ap (λ (rest : List (List ℕ)). w ∷ rest) h

-- a line changes no kind
module _ (buf : List ℕ) where
  kind_lined : (w : List ℕ) → kind_of (with_line (line_of buf) w) ≡ kind_of w
  unfolding with_line
  kind_lined [] = refl
  kind_lined (kind ∷ numbers) = refl

  kinds_lined : (ws : List (List ℕ)) → other_kinds (lined buf ws) ≡ lined buf (other_kinds ws)
  unfolding other_kinds
  kinds_lined [] = refl
  kinds_lined (w ∷ ws) = rw (kind_lined w) (go (eqb (kind_of w) 8) (kinds_lined ws))
    where
      v : List ℕ
      v = with_line (line_of buf) w

      go : (b : Bool) → other_kinds (lined buf ws) ≡ lined buf (other_kinds ws)
          → cond b (other_kinds (lined buf ws)) (v ∷ other_kinds (lined buf ws)) ≡ lined buf (cond b (other_kinds ws) (w ∷ other_kinds ws))
      go true h = h
      go false h = ap (λ (rest : List (List ℕ)). v ∷ rest) h

  others_lined : (ws : List (List ℕ)) → Others ws → Others (lined buf ws)
  others_lined [] p v m k = elim m [ ]
  others_lined (w ∷ ws) p v (Memᴰ.head same) k = p w (Memᴰ.head refl) (sym (kind_lined w) ∙ ap kind_of (sym same) ∙ k)
  others_lined (w ∷ ws) p v (Memᴰ.tail m) k = others_lined ws (λ u n. p u (Memᴰ.tail n)) v m k

module _ (buf : List ℕ) where
  others_lone : (kind : Escape) (e turns i : ℕ) → Others (lone_from buf kind e turns i)
  unfolding lone_from
  others_lone kind e zero i = others_none
  others_lone kind e (suc turns) i = go (ltb i e) (others_lone kind e turns (i + step_at (is_escape kind) buf i))
    where
      go : (b : Bool) {rest : List (List ℕ)} → Others rest → Others (cond b (when (lone_at buf kind i) (uninterpreted_escape i) ++ rest) [])
      go true ih = others_append (when (lone_at buf kind i) (uninterpreted_escape i)) (others_when (lone_at buf kind i) _ (λ k. omega (arith, k))) ih
      go false ih = others_none

  others_html : (a e : ℕ) → Others (html_in buf a e)
  unfolding html_in
  others_html a e = go (html_from (take e buf) (e - a) a)
    where
      go : (m : Option Span) → Others (of_some (λ x. uninterpreted_html x.start x.end) m)
      go (Some m) = others_when true (uninterpreted_html m.start m.end) (λ k. omega (arith, k))
      go None = others_none

  others_written : (kind : Escape) (a e : ℕ) → Others (written buf kind a e)
  unfolding written
  others_written kind a e = others_append (lone_from buf kind e (e - a) a) (others_lone kind e (e - a) a) (others_html a e)

  others_before : (i : ℕ) → Others (space_before buf i)
  others_before i = others_when (nonblank_before buf i) _ (λ k. omega (arith, k))

  others_after : (i : ℕ) → Others (space_after buf i)
  others_after i = others_when (nonblank_at buf (i + 1)) _ (λ k. omega (arith, k))

  others_token : (symbol : Lookup) (a e : ℕ) → Others (token_diags buf symbol a e)
  unfolding token_diags
  others_token symbol a e = others_when (is_missing (symbol (unescaped (is_escape escape.Math) (part buf a e)))) _ (λ k. omega (arith, k))

  others_link : (i a e : ℕ) → Others (link_diags buf i a e)
  unfolding link_diags tilde_diags
  others_link i a e = others_append (tilde_diags buf i) (others_append (space_before buf i) (others_before i) (others_after i)) (others_written escape.Label a e)

  others_name : (label : Lookup) (i a e : ℕ) → Others (name_diags buf label i a e)
  unfolding name_diags
  others_name label i a e = go (eqb a e) (is_missing (label (unescaped (is_escape escape.Label) (part buf a e))))
    where
      go : (empty missing : Bool) → Others (cond empty (empty_label i ∷ []) (when missing (unknown_label a e)))
      go true missing = others_when true _ (λ k. omega (arith, k))
      go false missing = others_when missing _ (λ k. omega (arith, k))

  others_label : (label : Lookup) (i a e : ℕ) → Others (label_diags buf label i a e)
  unfolding label_diags
  others_label label i a e = others_append (link_diags buf i a e) (others_link i a e) (others_name label i a e)

  others_escapes : (a e left i : ℕ) → Others (bib_escapes buf a e left i)
  unfolding bib_escapes
  others_escapes a e zero i = others_none
  others_escapes a e (suc left) i =
      others_append (when (byte_at buf i tick || byte_at buf i tilde) (bib_escape i a e)) (others_when (byte_at buf i tick || byte_at buf i tilde) _ (λ k. omega (arith, k))) (others_escapes a e left (i + 1))

  others_last : (end : ℕ) (m : Modes) → Others (last_diags end m)
  unfolding last_diags
  others_last end m = others_append (unclosed unclosed_math_markup end m.math) (go unclosed_math_markup (λ i k. omega (arith, k)) m.math) (go unclosed_html (λ i k. omega (arith, k)) m.html)
    where
      go : (made : ℕ → ℕ → List ℕ) → ((i : ℕ) → kind_of (made i end) ≡ 8 → ⊥) → (p : Option ℕ) → Others (unclosed made end p)
      go made d (Some i) = others_when true (made i end) (d i)
      go made d None = others_none

  -- ---- a tag, and any other event

  module _ (n : Names) where
    -- the record is that of a tag among the events, which is missing
    record Of (is : List CommentItem) (w : List ℕ) : Type 0 where
      from : ℕ
      to : ℕ
      tag : In (BibTag (span from to)) is
      same : w ≡ undefined_bib_tag from to
      missing : no_tag n.tags (part buf from to) ≡ true

    -- a tag
    from_tag : (a e : ℕ) (is : List CommentItem) (w : List ℕ) → In w (tag_diags buf n.tags a e) → kind_of w ≡ 8 → Of (BibTag (span a e) ∷ is) w
    unfolding tag_diags
    from_tag a e is w m k = go (Memᴰ.append_cases (bib_escapes buf a e (e - a) a) m)
      where
        go : In w (bib_escapes buf a e (e - a) a) ⊎ In w (when (no_tag n.tags (part buf a e)) (undefined_bib_tag a e)) → Of (BibTag (span a e) ∷ is) w
        go (inl h) = absurd (others_escapes a e (e - a) a w h k)
        go (inr h) =
            let there = when_in (no_tag n.tags (part buf a e)) _ w h in
            record { from = a; to = e; tag = Memᴰ.head refl; same = there.0; missing = there.1 }

    left_out_tag : (a e : ℕ) → other_kinds (tag_diags buf n.tags a e) ≡ tag_diags buf not_looked_up a e
    unfolding tag_diags other_kinds
    left_out_tag a e = kinds_append (bib_escapes buf a e (e - a) a) _ ∙ rw (kept _ (others_escapes a e (e - a) a)) (go (no_tag n.tags (part buf a e)))
      where
        go : (t : Bool) → bib_escapes buf a e (e - a) a ++ other_kinds (when t (undefined_bib_tag a e)) ≡ bib_escapes buf a e (e - a) a ++ []
        go true = refl
        go false = refl

    -- the same lookups, with tags not looked up
    abbrev silent : Names
    silent = record { symbol = n.symbol; label = n.label; tags = not_looked_up }

    -- an event is a tag, or gives no record of kind 8, and the same whether tags are looked up or not
    abbrev IsTag : CommentItem → Type 0
    IsTag i = (a : ℕ) × ((e : ℕ) × (BibTag (span a e) ≡ i))

    abbrev NoTag : Bool → CommentItem → Type 0
    NoTag html i = Others (item_diags buf n html i) × (item_diags buf n html i ≡ item_diags buf silent html i)

    tag_or_not : (html : Bool) (i : CommentItem) → IsTag i ⊎ NoTag html i
    tag_or_not html (Text s) = inr (others_written (escape.Text html) s.start s.end, refl)
    tag_or_not html (LineBreak i) = inr (others_none, refl)
    tag_or_not html (StartMathMode i) = inr (others_after i, refl)
    tag_or_not html (EndMathMode i) = inr (others_before i, refl)
    tag_or_not html (MathToken s) = inr (others_token n.symbol s.start s.end, refl)
    tag_or_not html (Label i s) = inr (others_label n.label i s.start s.end, refl)
    tag_or_not html (Url i s) = inr (others_link i s.start s.end, refl)
    tag_or_not html (StartHtml i) = inr (others_none, refl)
    tag_or_not html (EndHtml i) = inr (others_none, refl)
    tag_or_not html (StartSubscript i) = inr (others_none, refl)
    tag_or_not html (EndSubscript i) = inr (others_none, refl)
    tag_or_not html (StartItalic i) = inr (others_none, refl)
    tag_or_not html (EndItalic i) = inr (others_none, refl)
    tag_or_not html (BibTag s) = inl (s.start, (s.end, refl))

    -- ---- from a record of kind 8 to its tag, and back

    from_item : (html : Bool) (i : CommentItem) (is : List CommentItem) (w : List ℕ) → In w (item_diags buf n html i) → kind_of w ≡ 8 → Of (i ∷ is) w
    from_item html i is w m k = go (tag_or_not html i)
      where
        go : IsTag i ⊎ NoTag html i → Of (i ∷ is) w
        go (inl t) = rw (← t.1.1) (from_tag t.0 t.1.0 is w (rw (← t.1.1) at m) k)
        go (inr others) = absurd (others.0 w m k)

    from_diags : (end : ℕ) (m : Modes) (is : List CommentItem) (w : List ℕ) → In w (diags_from buf end n m is) → kind_of w ≡ 8 → Of is w
    unfolding diags_from
    from_diags end m [] w h k = absurd (others_last end m w h k)
    from_diags end m (i ∷ is) w h k = go (Memᴰ.append_cases (item_diags buf n (is_open m.html) i) h) (from_diags end (modes_after m i) is w)
      where
        go : In w (item_diags buf n (is_open m.html) i) ⊎ In w (diags_from buf end n (modes_after m i) is) → (In w (diags_from buf end n (modes_after m i) is) → kind_of w ≡ 8 → Of is w) → Of (i ∷ is) w
        go (inl here) rest = from_item (is_open m.html) i is w here k
        go (inr later) rest =
            let f = rest later k in
            record { from = f.from; to = f.to; tag = Memᴰ.tail f.tag; same = f.same; missing = f.missing }

    to_diags : (end a e : ℕ) → no_tag n.tags (part buf a e) ≡ true → (m : Modes) (is : List CommentItem) → In (BibTag (span a e)) is → In (undefined_bib_tag a e) (diags_from buf end n m is)
    unfolding diags_from tag_diags
    to_diags end a e missing m [] x = elim x [ ]
    to_diags end a e missing m (i ∷ is) (Memᴰ.head h) =
        Memᴰ.append_left {s = item_diags buf n (is_open m.html) i} (diags_from buf end n (modes_after m i) is)
        (rw (← h) (Memᴰ.append_right (bib_escapes buf a e (e - a) a) (rw missing (Memᴰ.head refl))))
    to_diags end a e missing m (i ∷ is) (Memᴰ.tail t) = Memᴰ.append_right (item_diags buf n (is_open m.html) i) (to_diags end a e missing (modes_after m i) is t)

    -- ---- with kind 8 left out

    left_out_item : (html : Bool) (i : CommentItem) → other_kinds (item_diags buf n html i) ≡ item_diags buf silent html i
    left_out_item html i = go (tag_or_not html i)
      where
        go : IsTag i ⊎ NoTag html i → other_kinds (item_diags buf n html i) ≡ item_diags buf silent html i
        go (inl t) = rw (← t.1.1) (left_out_tag t.0 t.1.0)
        go (inr others) = kept _ others.0 ∙ others.1

    left_out : (end : ℕ) (m : Modes) (is : List CommentItem) → other_kinds (diags_from buf end n m is) ≡ diags_from buf end silent m is
    unfolding diags_from
    left_out end m [] = kept _ (others_last end m)
    left_out end m (i ∷ is) = kinds_append (item_diags buf n (is_open m.html) i) (diags_from buf end n (modes_after m i) is) ∙ rw (left_out_item (is_open m.html) i, left_out end (modes_after m i) is)

pub reported_exactly : ReportedExactly
unfolding diagnostics
reported_exactly rd n buf start end = record {
  only_when = λ w m k.
      let f = from_diags buf n end closed (events_of rd buf start end) w m k in
      record { from = f.from; to = f.to; is = f.same; undefined = record { tag = f.tag; missing = f.missing } };
  whenever = λ a e u. to_diags buf n end a e u.missing closed (events_of rd buf start end) u.tag;
}

-- ---- no bibliography, and the named choice

-- checks with equal refusals and equal lookups agree
same_check : {t u : Tables} → tables_refusal t ≡ tables_refusal u → names_of t ≡ names_of u → SameCheck t u
unfolding check_refusal
same_check r n = record { answer = λ rd buf start end room. rw (r, n); left = λ rd buf start end room. rw (r, n) }

pub without_is_empty : WithoutIsEmpty
unfolding tables_refusal
without_is_empty sb se lb le = same_check (rw (← empty_good 3)) names
  where
    names : names_of (tables sb se lb le not_lent) ≡ names_of (tables sb se lb le (lent (table [] [])))
    names i = record { symbol = entry_of sb se; label = entry_of lb le; tags = ap looked_up (sym (fun_ext empty_missing)) i }

pub every_tag : EveryTag
every_tag rd sb se lb le buf start end a e m =
    Memᴰ.map (with_line (line_of buf)) ((reported_exactly rd (names_of (tables sb se lb le not_lent)) buf start end).whenever a e (record { tag = m; missing = refl }))

pub nothing_else : NothingElse
unfolding diagnostics
nothing_else rd sb se lb le buf start end b =
    let n = names_of (tables sb se lb le b) in
    kinds_lined buf (diagnostics rd n buf start end) ∙ ap (lined buf) (left_out buf n end closed (events_of rd buf start end))

pub no_eight : NoEight
no_eight rd sb se lb le buf start end =
    let n = names_of (tables sb se lb le no_tag_lookup) in
    others_lined buf (diagnostics rd n buf start end) (λ w m k.
    let f = (reported_exactly rd n buf start end).only_when w m k in
    absurd (differ (let u = f.undefined.missing in cc)))

pub not_looked_at : NotLookedAt
not_looked_at symbols labels = refl
