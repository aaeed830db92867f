-- Every match lies inside the text, its author and its date inside it, in order.
-- Assumes nothing.
use Prim.Native.Nat.{ℕ, zero, suc, ◌+◌, ◌-◌, ◌<◌, ◌≤◌}
use mathlib.Core.Path.{◌≡◌, refl, sym, ◌∙◌}
use mathlib.Core.List.{List}
use mathlib.Core.Bool.{Bool, true, false, false≢true}
use Rattle.std.specs.Prelude.{Option, None, Some}
use native.Mathlib.Omega.{arith}
use lib.Dec.{eqb}
use borrow.Author.Tests.{eqb-true, eqb-false}
use Rattle.std.proofs.lemmas.Option.{some_pair_parts}
use lib.ListN.{length}
use Rattle.std.specs.Option.{option_or}
use Rattle.basics.specs.declared.Span.{Span}
use Rattle.byte_rules.specs.Text.{bytes}
use Rattle.look.specs.Look.{byte_at}
use Rattle.look.proofs.Laws.{byte_within}
use Rattle.scans.specs.Marks.{lparen}
use Rattle.parentheticals.specs.Fields.{comma, ◌>>=◌, phrase_at, date_at, author_end}
use Rattle.parentheticals.specs.Matching.{contributed_by, revised_by, proof_shortened_by, proof_modification, new_usage}
use Rattle.parentheticals.specs.Matching.{told, author_after, head_at, notice_at, closing, tail_at, credit_of, credited, noticed}
use Rattle.parentheticals.specs.Matching.{rest_at, credit_at, match_at, first_of, next_from}
use Rattle.parentheticals.specs.declared.Parenthetical.{Parenthetical}
use Rattle.parentheticals.specs.declared.Parenthetical.TheVariants.{ContributedBy, RevisedBy, ProofShortenedBy}
use Rattle.parentheticals.specs.declared.Parenthetical.TheVariants.{ProofModificationDiscouraged, NewUsageDiscouraged}
use Rattle.parentheticals.specs.declared.Found.{Found}
use Rattle.parentheticals.specs.declared.matching.Credit.{Credit}
use Rattle.parentheticals.specs.declared.matching.Credit.TheVariants.{Contributed, Revised, ProofShortened}
use Rattle.parentheticals.specs.declared.matching.Closing.{Closing}
use Rattle.parentheticals.proofs.Inside.{never, phrase_inside, date_inside, Begins, start_begins}
use Rattle.parentheticals.proofs.Authors.{author_ends}

-- ---- the fields of a parenthetical

-- the author and the date of a credit lie inside the whole, in order, and neither is empty
pub record Ordered (whole author date : Span) : Type 0 where
  pub opened : whole.start < author.start
  pub named : author.start < author.end
  pub parted : author.end < date.start
  pub dated : date.start < date.end
  pub closed : date.end < whole.end

abbrev pub InOrder : Span → Parenthetical → Type 0
InOrder whole (ContributedBy author date) = Ordered whole author date
InOrder whole (RevisedBy author date) = Ordered whole author date
InOrder whole (ProofShortenedBy author date) = Ordered whole author date
InOrder whole ProofModificationDiscouraged = Unit
InOrder whole NewUsageDiscouraged = Unit

-- ---- what is told, and the place behind it

module _ {A : Type 0} (P : A → ℕ → Type 0) (x y : A) (a : ℕ) where
  -- what holds of what is told holds of the pair that stands
  last : (p : Option ℕ) → ((b : ℕ) → p ≡ Some b → P x b) → told x p ≡ Some (y, a) → P y a
  last None f e = never e
  last (Some b) f e = let r = some_pair_parts x y b a e in rw (r.0, r.1) at (f b refl)

  -- the same where another may be told
  either : (p : Option ℕ) (other : Option (A × ℕ)) → ((b : ℕ) → p ≡ Some b → P x b) → (other ≡ Some (y, a) → P y a)
      → option_or (told x p) other ≡ Some (y, a) → P y a
  either None other f g e = g e
  either (Some b) other f g e = last (Some b) f e

module _ (s : List ℕ) (i : ℕ) (h : i ≤ length s) where
  after_begins : (w : List ℕ) (a : ℕ) → author_after w s i ≡ Some a → Begins s i a
  unfolding author_after
  after_begins w a e = go (phrase_at w s i) refl
    where
      go : (p : Option ℕ) → phrase_at w s i ≡ p → Begins s i a
      go (Some j) q =
          let r = phrase_inside w s i j h q in
          let b = start_begins s j a r.1 (rw q at e) in
          record { after = omega arith; inside = b.inside; spaced = b.spaced; kept = b.kept }
      go None q = never (rw q at e)

  pub head_begins : (k : Credit) (a : ℕ) → head_at s i ≡ Some (k, a) → Begins s i a
  unfolding head_at
  head_begins k a =
      either (λ c. Begins s i) Contributed k a _ _ (after_begins contributed_by)
      (either (λ c. Begins s i) Revised k a _ _ (after_begins revised_by)
      (last (λ c. Begins s i) ProofShortened k a _ (after_begins proof_shortened_by)))

  -- a notice, which has no fields, ends behind its start
  record Ends (n : Parenthetical) (j : ℕ) : Type 0 where
    onward : i < j
    inside : j ≤ length s
    fields : (whole : Span) → InOrder whole n

  notice_ends : (n : Parenthetical) (j : ℕ) → notice_at s i ≡ Some (n, j) → Ends n j
  unfolding notice_at
  notice_ends n j =
      either Ends ProofModificationDiscouraged n j _ _
      (λ b q. let r = phrase_inside proof_modification s i b h q in record { onward = omega arith; inside = r.1; fields = λ whole. tt })
      (last Ends NewUsageDiscouraged n j _
      (λ b q. let r = phrase_inside new_usage s i b h q in record { onward = omega arith; inside = r.1; fields = λ whole. tt }))

-- ---- what closes a credit

record Closes (n b : ℕ) (t : Closing) : Type 0 where
  author : t.author_end ≡ b
  after : b < t.date.start
  dated : t.date.start < t.date.end
  before : t.date.end < t.end
  inside : t.end ≤ n

tail_closes : (s : List ℕ) (b : ℕ) (t : Closing) → b ≤ length s → tail_at s b ≡ Some t → Closes (length s) b t
unfolding tail_at
tail_closes s b t h q = spaces (phrase_at (bytes ", ") s b) refl
  where
    close : (d e : ℕ) (p : Option ℕ) → phrase_at (bytes ".)") s e ≡ p → b < d → d < e → e ≤ length s
        → (p >>= (λ j. Some (closing b d e j))) ≡ Some t → Closes (length s) b t
    close d e (Some j) f x y z g =
        let same : closing b d e j ≡ t = cc in
        let r = phrase_inside (bytes ".)") s e j z f in
        rw (sym same) (record { author = refl; after = x; dated = y; before = omega arith; inside = r.1 })
    close d e None f x y z g = never g

    date : (d : ℕ) (p : Option ℕ) → date_at s d ≡ p → b < d → d ≤ length s
        → (p >>= (λ e. phrase_at (bytes ".)") s e >>= (λ j. Some (closing b d e j)))) ≡ Some t → Closes (length s) b t
    date d (Some e) f x y g =
        let r = date_inside s d e y f in
        close d e (phrase_at (bytes ".)") s e) refl x r.0 r.1 g
    date d None f x y g = never g

    spaces : (p : Option ℕ) → phrase_at (bytes ", ") s b ≡ p → Closes (length s) b t
    spaces (Some d) f =
        let r = phrase_inside (bytes ", ") s b d h f in
        date d (date_at s d) refl (omega arith) r.1 (rw f at q)
    spaces None f = never (rw f at q)

-- ---- a parenthetical

-- a parenthetical lies between two places
pub record Lies (from to : ℕ) (f : Found) : Type 0 where
  pub behind : from ≤ f.whole.start
  pub onward : f.whole.start < f.whole.end
  pub inside : f.whole.end ≤ to
  pub fields : InOrder f.whole f.item

credit_order : (whole author date : Span) (k : Credit) → Ordered whole author date → InOrder whole (credit_of k author date)
credit_order whole author date Contributed r = r
credit_order whole author date Revised r = r
credit_order whole author date ProofShortened r = r

module _ (bars : ℕ → Bool) (s : List ℕ) where
  credit_lies : (i : ℕ) (f : Found) → i < length s → credit_at bars s i ≡ Some f → Lies i (length s) f
  unfolding credit_at rest_at
  credit_lies i f lt e = head (head_at s (i + 1)) refl
    where
      -- the author's end is a `,`, and none stands at its start
      apart : (a b : ℕ) → Begins s (i + 1) a → a ≤ b → byte_at s b comma ≡ true → (t : Bool) → eqb a b ≡ t → a < b
      apart a b g le q true t = absurd (false≢true (sym g.kept ∙ (rw (sym (eqb-true a b t)) at q)))
      apart a b g le q false t = let n : a ≡ b → ⊥ = eqb-false a b t in omega arith

      tail : (k : Credit) (a b : ℕ) (p : Option Closing) → tail_at s b ≡ p → Begins s (i + 1) a → a < b → b < length s
          → (p >>= (λ t. Some (credited i k a t))) ≡ Some f → Lies i (length s) f
      tail k a b (Some t) q g x y d =
          let same : credited i k a t ≡ f = cc in
          let c = tail_closes s b t (omega arith) q in
          let z = c.author in
          rw (sym same)
          (record {
            behind = omega arith;
            onward = omega (arith, g.after, c.after, c.dated, c.before);
            inside = c.inside;
            fields =
                credit_order _ _ _ k
                (record { opened = omega (arith, g.after); named = omega arith; parted = omega (arith, c.after); dated = c.dated; closed = c.before });
          })
      tail k a b None q g x y d = never d

      author : (k : Credit) (a : ℕ) (p : Option ℕ) → author_end bars s a ≡ p → Begins s (i + 1) a
          → ((p >>= (λ b. tail_at s b)) >>= (λ t. Some (credited i k a t))) ≡ Some f → Lies i (length s) f
      author k a (Some b) q g d =
          let r = author_ends bars s a b q in
          tail k a b (tail_at s b) refl g (apart a b g r.0 r.1 (eqb a b) refl) (byte_within s b comma r.1) d
      author k a None q g d = never d

      head : (p : Option (Credit × ℕ)) → head_at s (i + 1) ≡ p → Lies i (length s) f
      head (Some h) q = author h.0 h.1 (author_end bars s h.1) refl (head_begins s (i + 1) (omega arith) h.0 h.1 q) (rw q at e)
      head None q = never (rw q at e)

  match_lies : (i : ℕ) (f : Found) → match_at bars s i ≡ Some f → Lies i (length s) f
  unfolding match_at
  match_lies i f e = opening (byte_at s i lparen) refl
    where
      notice : (p : Option (Parenthetical × ℕ)) → notice_at s (i + 1) ≡ p → i < length s
          → option_or (p >>= (λ n. Some (noticed i n.0 n.1))) (credit_at bars s i) ≡ Some f → Lies i (length s) f
      notice (Some n) q lt d =
          let same : noticed i n.0 n.1 ≡ f = cc in
          let r = notice_ends s (i + 1) (omega arith) n.0 n.1 q in
          rw (sym same) (record { behind = omega arith; onward = omega (arith, r.onward); inside = r.inside; fields = r.fields _ })
      notice None q lt d = credit_lies i f lt d

      opening : (t : Bool) → byte_at s i lparen ≡ t → Lies i (length s) f
      opening true t = notice (notice_at s (i + 1)) refl (byte_within s i lparen t) (rw t at e)
      opening false t = never (rw t at e)

  first_lies : (k i : ℕ) (f : Found) → first_of (match_at bars s) k i ≡ Some f → Lies i (length s) f
  unfolding first_of
  first_lies zero i f e = never e
  first_lies (suc k) i f e = go (match_at bars s i) refl (first_lies k (i + 1) f)
    where
      go : (p : Option Found) → match_at bars s i ≡ p → (first_of (match_at bars s) k (i + 1) ≡ Some f → Lies (i + 1) (length s) f) → Lies i (length s) f
      go (Some g) q ih = match_lies i f (q ∙ (rw q at e))
      go None q ih = let r = ih (rw q at e) in record { behind = omega (arith, r.behind); onward = r.onward; inside = r.inside; fields = r.fields }

  -- the leftmost match from i on
  pub next_lies : (i : ℕ) (f : Found) → next_from bars s i ≡ Some f → Lies i (length s) f
  unfolding next_from
  next_lies i f e = first_lies (length s - i) i f e
