-- `opened::lay_last` meets its contract: two writers, the second behind the first.
-- Assumes nothing.
use Rattle.std.proofs.Common.{◌≡◌, rules, ℕ, arith}
use Rattle.records.proofs.Both.{sum_fits}
use Rattle.verify_markup.specs.Diag.{unclosed_math_markup, unclosed_html}
use Rattle.verify_markup.specs.List.{unclosed, last_diags}
use Rattle.verify_markup.specs.Words.{words_if}
use Rattle.verify_markup.proofs.DiagLaws.{words_mapped, pair_told}
use Rattle.verify_markup.proofs.ListLaws.{few_unclosed_math, few_unclosed_html}
use Rattle.verify_markup.proofs.opened.lay_last.Goals as goal

pub returns : goal.returns
unfolding last_diags
returns c =
    let a = c.args in
    let math : words_if c.map-math.result ≡ unclosed unclosed_math_markup a.end a.modes.math = words_mapped (λ (i : ℕ). unclosed_math_markup i a.end) _ _ c.map-math.ensures.cases (λ i y r. search rules) in
    let html : words_if c.map-html.result ≡ unclosed unclosed_html a.end a.modes.html = words_mapped (λ (i : ℕ). unclosed_html i a.end) _ _ c.map-html.ensures.cases (λ i y r. search rules) in
    pair_told (few_unclosed_math a.end a.modes.math) (few_unclosed_html a.end a.modes.html) (rw math at c.lay_option-wrote.ensures) (rw html at c.lay_option.ensures) (omega (arith, c.well_formed)) (omega arith) (sum_fits _ _ c.then.ensures)
