-- Parentheticals (document 01, "Credits and dates"): what matches at an opening parenthesis, the first match from a place on, and all of them.
use Rattle.std.specs.Prelude.{ℕ, zero, suc, ◌+◌, ◌-◌, List, Bool, cond, length, Option, Some, None, is_some}
use Rattle.std.specs.Option.{option_or}
use Rattle.std.proofs.Math.Option as turn
use Rattle.basics.specs.declared.Span.{Span}
use Rattle.byte_rules.specs.Text.{bytes}
use Rattle.look.specs.Look.{byte_at}
use Rattle.records.specs.Produced.{produced}
use Rattle.scans.specs.Marks.{lparen}
use Rattle.parentheticals.specs.Fields.{◌>>=◌, phrase_at, date_at, author_start, author_end}
use Rattle.parentheticals.specs.declared.Parenthetical.{Parenthetical}
use Rattle.parentheticals.specs.declared.Parenthetical.TheVariants.{ContributedBy, RevisedBy, ProofShortenedBy}
use Rattle.parentheticals.specs.declared.Parenthetical.TheVariants.{ProofModificationDiscouraged, NewUsageDiscouraged}
use Rattle.parentheticals.specs.declared.Found.{Found}
use Rattle.parentheticals.specs.declared.matching.Credit.{Credit}
use Rattle.parentheticals.specs.declared.matching.Credit.TheVariants.{Contributed, Revised, ProofShortened}
use Rattle.parentheticals.specs.declared.matching.Closing.{Closing}

abbrev pub span : ℕ → ℕ → Span
span a e = record { start = a; end = e }

-- ---- the words behind the `(`, in the enum's order

abbrev pub contributed_by : List ℕ
contributed_by = bytes "Contributed by"

abbrev pub revised_by : List ℕ
revised_by = bytes "Revised by"

abbrev pub proof_shortened_by : List ℕ
proof_shortened_by = bytes "Proof shortened by"

abbrev pub proof_modification : List ℕ
proof_modification = bytes "Proof modification is discouraged.)"

abbrev pub new_usage : List ℕ
new_usage = bytes "New usage is discouraged.)"

-- ---- behind the `(`: what is told, and the place that follows

abbrev pub told : {A : Type 0} → A → Option ℕ → Option (A × ℕ)
told a p = p >>= (λ i. Some (a, i))

-- where the author starts behind a phrase
unfoldable pub author_after : List ℕ → List ℕ → ℕ → Option ℕ
author_after w s i = phrase_at w s i >>= (λ j. author_start s j)

-- of a credit, with its author's start
unfoldable pub head_at : List ℕ → ℕ → Option (Credit × ℕ)
head_at s i =
    option_or (told Contributed (author_after contributed_by s i))
    (option_or (told Revised (author_after revised_by s i))
    (told ProofShortened (author_after proof_shortened_by s i)))

-- a notice, with its end
unfoldable pub notice_at : List ℕ → ℕ → Option (Parenthetical × ℕ)
notice_at s i =
    option_or (told ProofModificationDiscouraged (phrase_at proof_modification s i))
    (told NewUsageDiscouraged (phrase_at new_usage s i))

-- ---- from the author on

abbrev pub closing : ℕ → ℕ → ℕ → ℕ → Closing
closing b d e j = record { author_end = b; date = span d e; end = j }

-- behind an author that ends at b: `,` and spaces, the date, and `.)`
unfoldable pub tail_at : List ℕ → ℕ → Option Closing
tail_at s b = phrase_at (bytes ", ") s b >>= (λ d. date_at s d >>= (λ e. phrase_at (bytes ".)") s e >>= (λ j. Some (closing b d e j))))

-- ---- the parenthetical at a place

-- a credit of that kind, by its author and date
abbrev pub credit_of : Credit → Span → Span → Parenthetical
credit_of Contributed author date = ContributedBy author date
credit_of Revised author date = RevisedBy author date
credit_of ProofShortened author date = ProofShortenedBy author date

abbrev pub credited : ℕ → Credit → ℕ → Closing → Found
credited i c a t = record { whole = span i t.end; item = credit_of c (span a t.author_end) t.date }

abbrev pub noticed : ℕ → Parenthetical → ℕ → Found
noticed i notice e = record { whole = span i e; item = notice }

module _ (bars : ℕ → Bool) (s : List ℕ) where
  -- what stands from an author's start on
  unfoldable pub rest_at : ℕ → Option Closing
  rest_at a = author_end bars s a >>= (λ b. tail_at s b)

  -- the credit whose `(` stands at i
  unfoldable pub credit_at : ℕ → Option Found
  credit_at i = head_at s (i + 1) >>= (λ h. rest_at h.1 >>= (λ t. Some (credited i h.0 h.1 t)))

  -- what matches at i: a notice or a credit
  unfoldable pub match_at : ℕ → Option Found
  match_at i = cond (byte_at s i lparen) (option_or (notice_at s (i + 1) >>= (λ n. Some (noticed i n.0 n.1))) (credit_at i)) None

-- ---- the leftmost

-- the first that matches, of the k places from i on
unfoldable pub first_of : {A : Type 0} → (ℕ → Option A) → ℕ → ℕ → Option A
first_of at zero i = None
first_of at (suc k) i = let rest = first_of at k (i + 1) in option_or (at i) rest

-- a match with its end, as a turn of `produced`
abbrev pub with_end : Option Found → turn.Option (Found × ℕ)
with_end None = turn.none
with_end (Some f) = turn.some (f, f.whole.end)

-- the bytes from i on
unfoldable pub bytes_left : List ℕ → ℕ → ℕ
bytes_left s i = length s - i

module _ (bars : ℕ → Bool) (s : List ℕ) where
  -- the leftmost match from i on
  unfoldable pub next_from : ℕ → Option Found
  next_from i = first_of (match_at bars s) (length s - i) i

  -- it, and its end, from which the next is looked for: none overlap
  unfoldable pub step_from : ℕ → turn.Option (Found × ℕ)
  step_from i = with_end (next_from i)

  -- all of them from i on
  unfoldable pub matches_from : ℕ → List Found
  matches_from i = produced step_from (bytes_left s) i

-- ---- a phrase anywhere

-- whether it stands at i or behind
unfoldable pub stands_in : List ℕ → List ℕ → ℕ → Bool
stands_in w s i = is_some (first_of (phrase_at w s) (length s - i) i)
