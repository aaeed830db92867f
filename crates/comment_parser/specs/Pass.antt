-- A pass (document 01, "Reading rules"): the run from the current position to what ends it.
use Rattle.std.specs.Prelude.{ℕ, true, false, None, List, length, ltb}
use Rattle.byte_rules.specs.Reading.{Reading}
use Rattle.scans.specs.Scan.{scan}
use Rattle.scans.specs.Ends.{blanks_end}
use Rattle.scans.specs.declared.Step.{Step}
use Rattle.scans.specs.declared.Step.TheVariants.{One as StepOne, Two as StepTwo, Stop}
use Rattle.comment_parser.specs.Item.{span}
use Rattle.comment_parser.specs.State.{moved}
use Rattle.comment_parser.specs.Rules.{pass_act}
use Rattle.comment_parser.specs.declared.CommentItem.{CommentItem}
use Rattle.comment_parser.specs.declared.CommentItem.TheVariants.{Text, MathToken}
use Rattle.comment_parser.specs.declared.ParserState.{ParserState}
use Rattle.comment_parser.specs.declared.Act.{Act}
use Rattle.comment_parser.specs.declared.Act.TheVariants.{One, Two, Ends}
use Rattle.comment_parser.specs.declared.Run.{Run}

abbrev pub step_of : Act → Step
step_of One = StepOne
step_of Two = StepTwo
step_of (Ends q t) = Stop

abbrev pub run_to : ℕ → ParserState → Run
run_to q t = record { end = q; after = t }

-- in math, blanks are skipped before the run
unfoldable pub run_start : List ℕ → ParserState → ℕ
run_start s st = elim st.math [ true ↦ blanks_end s st.pos | false ↦ st.pos ]

-- a run that goes to the end of the text
abbrev pub at_end : List ℕ → ParserState → Run
at_end s st = run_to (length s) (moved st (length s) None)

module _ (rd : Reading) (s : List ℕ) (st : ParserState) where
  unfoldable pub pass_step : ℕ → ℕ → Step
  pass_step from p = step_of (pass_act rd s st from p)

  -- what ends the run at p: a rule, or the end
  unfoldable pub ended_at : ℕ → ℕ → Run
  ended_at from p =
      elim (ltb p (length s)) [
        | true ↦ elim (pass_act rd s st from p) [ Ends q t ↦ run_to q t | One ↦ at_end s st | Two ↦ at_end s st ]
        | false ↦ at_end s st
      ]

  -- the run from `from` goes to the first place that ends it
  unfoldable pub pass : ℕ → Run
  pass from = ended_at from (scan (pass_step from) (length s) from)

-- the run's event: a MathToken in math, else a Text
unfoldable pub run_item : ParserState → ℕ → ℕ → CommentItem
run_item st a b = elim st.math [ true ↦ MathToken (span a b) | false ↦ Text (span a b) ]
