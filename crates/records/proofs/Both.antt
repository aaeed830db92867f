-- Two writers, one after the other: the second is lent the tail behind what the first wrote, and together they laid both lists.
-- Assumes nothing.
use Prim.Native.Nat.{ℕ, ◌+◌, ◌%◌, ◌^◌, ◌<◌}
use native.Mathlib.Omega.{arith}
use mathlib.Core.Path.{◌≡◌, sym, ap, ◌∙◌}
use mathlib.Core.List.{List, ◌++◌}
use lib.ListN.{length, drop, length-append}
use Rattle.records.specs.Records.{laid, used, wrote_of, sum, wrapped_sum}
use Rattle.records.specs.declared.Wrote.{Wrote}
use Rattle.records.proofs.Laws.{Wide, laid_append}
use Rattle.records.proofs.Laying.{tail, back, tail_is, back_is}

-- where both sums fit, what `then` answers is the sum
pub sum_fits : (a b : Wrote) {r : Wrote} → r ≡ wrapped_sum a b → (a.words + b.words < 2 ^ 64) × (a.count + b.count < 2 ^ 64) → r ≡ sum a b
sum_fits a b told fits =
    let words : (a.words + b.words) % 2 ^ 64 ≡ a.words + b.words = omega (arith, fits.0) in
    let count : (a.count + b.count) % 2 ^ 64 ≡ a.count + b.count = omega (arith, fits.1) in
    rw (told, words, count)

-- `mid` is the room after the first, and `last` the tail after the second
module _ (k : ℕ) (ws vs : List (List ℕ)) (room mid last : List ℕ) (wide : Wide k ws) (a b : Wrote)
    (wrote_a : a ≡ wrote_of k ws (length room)) (laid_a : mid ≡ laid k ws room)
    (wrote_b : b ≡ wrote_of k vs (length (tail a.words mid))) (laid_b : last ≡ laid k vs (tail a.words mid)) where
  words_a : a.words ≡ used k ws (length room)
  words_a = ap (λ (w : Wrote). w.words) wrote_a

  rest_is : tail a.words mid ≡ drop (used k ws (length room)) (laid k ws room)
  rest_is = tail_is a.words mid ∙ rw (words_a, laid_a)

  pub both_wrote : sum a b ≡ wrote_of k (ws ++ vs) (length room)
  both_wrote =
      let split = laid_append k ws vs room wide in
      rw (wrote_b, rest_is, wrote_a, length-append, split.1)

  pub both_laid : back a.words mid last ≡ laid k (ws ++ vs) room
  both_laid =
      let split = laid_append k ws vs room wide in
      back_is a.words mid last ∙ rw (laid_b, rest_is, words_a, laid_a) (sym split.0)
