-- From the account of a span to its pieces: they stand end to end, and each says the truth of the buffer.
-- Assumes nothing.
use Prim.Native.Nat.{ℕ, ◌+◌, ◌-◌, ◌≤◌, ◌<◌}
use mathlib.Core.Bool.{Bool, true, false}
use mathlib.Core.List.{List, [], ◌∷◌}
use mathlib.Core.Option.{Option, some}
use mathlib.Core.Path.{◌≡◌, refl, sym, subst}
use native.Mathlib.Omega.{arith}
use lib.ListN.{get_or}
use Rattle.byte_rules.proofs.Laws.{space_is_blank}
use Rattle.scans.proofs.Laws.{clash}
use Rattle.comment_parser.specs.Item.{span}
use Rattle.comment_parser.specs.declared.CommentItem.{CommentItem}
use Rattle.comment_parser.specs.declared.CommentItem.TheVariants.{Text, MathToken}
use Rattle.coverage.specs.Demand3.{All, whole, begins, ends, in_math_after, layout, TokenMarkOrEnd, a_token, a_mark, the_end, Opening, opens_math, opens_label, opens_url, Closing, closes_math, closes_label, closes_url, Blanks, Dropped, nothing, in_math_case, before_opening, after_closing, Reads, Fits}
use Rattle.coverage.proofs.Account.{run_of, Gap, math_gap, no_gap, Before, space_before_case, none_before, After, space_after_case, none_after, Ending, Account, end, run, ending, run_ending, open_math, close_math, label, url, open_html_case, close_html_case, open_subscript, open_italic, close_italic, tag, line_break, close_subscript}
use Rattle.coverage.proofs.Tilings.{all_append, Tiled, tiled_append}

-- after skipped blanks in math stands a token, a closing backtick or the end: an event that owns no byte follows a run at once
ending_next : {buf : List ℕ} {b r q n : ℕ} {m m' : Bool} {c : CommentItem} → Ending buf b r m q c m' n → m ≡ true → q < n → TokenMarkOrEnd (some c)
ending_next (open_math f t) h z = clash refl h
ending_next (close_math t a) h z = a_mark
ending_next (label f t k l a) h z = clash refl h
ending_next (url f t k l a) h z = clash refl h
ending_next (open_html_case t) h z = clash refl h
ending_next (close_html_case t) h z = clash refl h
ending_next (open_subscript t) h z = clash refl h
ending_next (open_italic t) h z = clash refl h
ending_next (close_italic t) h z = clash refl h
ending_next (tag t l u) h z = clash refl h
ending_next line_break h z = clash refl h
ending_next close_subscript h z = absurd (omega arith)

run_next : (m : Bool) (r q : ℕ) → m ≡ true → TokenMarkOrEnd (some (run_of m r q))
run_next true r q h = a_token
run_next false r q h = clash refl h

module _ (buf : List ℕ) (b : ℕ) where
  pub record Laid (m : Bool) (prev : Option CommentItem) (i : ℕ) (es : List CommentItem) : Type 0 where
    pub tiles : Tiled i b (layout b m prev i es)
    pub holds : All (Fits buf b) (layout b m prev i es)

  -- what lies between two events, from i to j
  record Between (m : Bool) (prev next : Option CommentItem) (i j : ℕ) : Type 0 where
    pub up : i ≤ j
    pub blank : Blanks buf i j
    pub dropped : Dropped buf b m prev next i j

  -- a mark of one byte
  byte_reads : (p c : ℕ) → get_or buf p 0 ≡ c → Reads buf p (p + 1) (c ∷ [])
  byte_reads p c h =
      record { long = refl; byte = λ k l. let z : k ≡ 0 = omega arith in let y : p + 0 ≡ p = omega arith in rw (z, y) h }

  empty : {m : Bool} {prev next : Option CommentItem} {i : ℕ} → Between m prev next i i
  empty = record { up = omega arith; blank = λ k l u. absurd (omega arith); dropped = nothing }

  one_blank : (i j : ℕ) → j ≡ i + 1 → get_or buf i 0 ≡ 32 → Blanks buf i j
  one_blank i j n s k l u = let z : k ≡ i = omega arith in rw (z, s) space_is_blank

  -- between a run and an opening mark
  before_between : {r q p : ℕ} {c : CommentItem} → Before buf r q p → Opening c → Between false (some (Text (span r q))) (some c) q p
  before_between (space_before_case {q = q} {p = p} n l s a) o =
      let z : p ≡ q + 1 = sym n in
      record { up = omega arith; blank = one_blank q p z s; dropped = before_opening (record { opening = o; one = z; space = s; two_bytes = l; ahead = a }) }
  before_between none_before o = empty

  -- with no run nothing is dropped before the event
  before_straight : {r q p : ℕ} → Before buf r q p → r ≡ q → p ≡ q
  before_straight (space_before_case n l s a) h = absurd (omega arith)
  before_straight none_before h = refl

  -- before a place that the reader starts from: nothing, or what was dropped after a closing mark or a label
  pub data Lead : Bool → Option CommentItem → ℕ → ℕ → Type 0 where
    behind : {c : CommentItem} {p n : ℕ} → Closing c → After buf b p n → Lead false (some c) p n
    straight : {m : Bool} {prev : Option CommentItem} {n : ℕ} → Lead m prev n n

  on_to : {m : Bool} {prev : Option CommentItem} {i n : ℕ} → i ≡ n → Lead m prev i n
  on_to {m} {prev} {i} {n} e = rw e straight

  head : {m : Bool} {prev next : Option CommentItem} {p n r : ℕ} → Lead m prev p n → Gap buf m n r → (m ≡ true → TokenMarkOrEnd next) → Between m prev next p r
  head (behind c (space_after_case {p = p} s l k)) no_gap f =
      record { up = omega arith; blank = one_blank p (p + 1) refl s; dropped = after_closing (record { closing = c; one = refl; space = s; inside = l; closer = k }) }
  head (behind c none_after) no_gap f = empty
  head straight (math_gap g) f = record { up = g.up; blank = g.blank; dropped = in_math_case (f refl) }
  head straight no_gap f = empty

  -- the event that ends a run from r to q
  record EndingLaid (r : ℕ) (m : Bool) (q : ℕ) (c : CommentItem) (m' : Bool) (n : ℕ) : Type 0 where
    pub before : Between m (some (run_of m r q)) (some c) q (begins c)
    pub straight_if : r ≡ q → begins c ≡ q
    pub tiles : Tiled (begins c) (ends c) (whole c)
    pub leads : Lead m' (some c) (ends c) n
    pub holds : All (Fits buf b) (whole c)
    pub mode : in_math_after c m ≡ m'

  ending_laid : {r q n : ℕ} {m m' : Bool} {c : CommentItem} → Ending buf b r m q c m' n → EndingLaid r m q c m' n
  ending_laid (open_math {p = p} f t) =
      record { before = before_between f opens_math; straight_if = before_straight f; tiles = omega arith; leads = on_to (omega arith); holds = (byte_reads p 96 t, tt); mode = refl }
  ending_laid (close_math {q = q} t a) =
      record { before = empty; straight_if = λ _. refl; tiles = omega arith; leads = behind closes_math a; holds = (byte_reads q 96 t, tt); mode = refl }
  ending_laid (label {p = p} f t k l a) =
      record { before = before_between f opens_label; straight_if = before_straight f; tiles = omega (arith, k.up); leads = behind closes_label a; holds = (byte_reads p 126 t, (k.blank, (tt, tt))); mode = refl }
  ending_laid (url {p = p} f t k l a) =
      record { before = before_between f opens_url; straight_if = before_straight f; tiles = omega (arith, k.up); leads = behind closes_url a; holds = (byte_reads p 126 t, (k.blank, (tt, tt))); mode = refl }
  ending_laid (open_html_case t) = record { before = empty; straight_if = λ _. refl; tiles = omega arith; leads = on_to (omega arith); holds = (t, tt); mode = refl }
  ending_laid (close_html_case t) = record { before = empty; straight_if = λ _. refl; tiles = omega arith; leads = on_to (omega arith); holds = (t, tt); mode = refl }
  ending_laid (open_subscript {q = q} t) = record { before = empty; straight_if = λ _. refl; tiles = omega arith; leads = on_to (omega arith); holds = (byte_reads q 95 t, tt); mode = refl }
  ending_laid (open_italic {q = q} t) = record { before = empty; straight_if = λ _. refl; tiles = omega arith; leads = on_to (omega arith); holds = (byte_reads q 95 t, tt); mode = refl }
  ending_laid (close_italic {q = q} t) = record { before = empty; straight_if = λ _. refl; tiles = omega arith; leads = on_to (omega arith); holds = (byte_reads q 95 t, tt); mode = refl }
  ending_laid (tag {q = q} {c = c} t l u) =
      let z : q + 1 - 1 ≡ q = omega arith in
      record { before = rw z empty; straight_if = λ _. z; tiles = omega arith; leads = on_to (omega arith); holds = (rw z (byte_reads q 91 t), (tt, (byte_reads c 93 u, tt))); mode = refl }
  ending_laid line_break = record { before = empty; straight_if = λ _. refl; tiles = omega arith; leads = on_to (omega arith); holds = tt; mode = refl }
  ending_laid close_subscript = record { before = empty; straight_if = λ _. refl; tiles = omega arith; leads = on_to (omega arith); holds = tt; mode = refl }

  -- one event more in front
  cons :
      {m m' : Bool} {prev : Option CommentItem} {p : ℕ} {es : List CommentItem} (c : CommentItem) → Between m prev (some c) p (begins c) →
      Tiled (begins c) (ends c) (whole c) → All (Fits buf b) (whole c) → in_math_after c m ≡ m' → Laid m' (some c) (ends c) es → Laid m prev p (c ∷ es)
  cons {es = es} c d t h z l =
      let k = subst (λ (v : Bool). Laid v (some c) (ends c) es) (sym z) l in
      record {
        tiles = (refl, d.up, tiled_append _ _ _ (whole c) _ t k.tiles);
        holds = ((d.blank, d.dropped), all_append (Fits buf b) (whole c) _ h k.holds);
      }

  cons_run :
      (m : Bool) {prev : Option CommentItem} {p r q : ℕ} {es : List CommentItem} → r < q → Between m prev (some (run_of m r q)) p r →
      Laid m (some (run_of m r q)) q es → Laid m prev p (run_of m r q ∷ es)
  cons_run true u d l = cons (MathToken _) d (omega arith) (tt, tt) refl l
  cons_run false u d l = cons (Text _) d (omega arith) (tt, tt) refl l

  cons_ending :
      {r q n p : ℕ} {m m' : Bool} {prev : Option CommentItem} {c : CommentItem} {es : List CommentItem} → EndingLaid r m q c m' n → Between m prev (some c) p (begins c) →
      Laid m' (some c) (ends c) es → Laid m prev p (c ∷ es)
  cons_ending k d l = cons _ d k.tiles k.holds k.mode l

  pub laid : {m : Bool} {prev : Option CommentItem} {p n : ℕ} {es : List CommentItem} → Account buf b m n es → Lead m prev p n → Laid m prev p es
  laid (end g) f = let d = head f g (λ _. the_end) in record { tiles = (refl, d.up, refl); holds = ((d.blank, d.dropped), tt) }
  laid (run {m = m} {r = r} {q = q} g u a) f = cons_run m u (head f g (run_next m r q)) (laid a straight)
  laid (ending g u k a) f = let d = ending_laid k in cons_ending d (rw (d.straight_if refl) (head f g (λ h. ending_next k h u))) (laid a d.leads)
  laid (run_ending {m = m} {r = r} {q = q} g u v k a) f = let d = ending_laid k in cons_run m u (head f g (run_next m r q)) (cons_ending d d.before (laid a d.leads))
