-- The three demands, the typed rules, the slips, the layouts, the modes, the case of labels and the label book, as nine
-- statements about every call (`Calls.antt`, `Typed.antt`, `Slips.antt`, `LabelBook.antt`): of whatever the calls
-- answer and leave by their contracts. That a call ends and does nothing undefined is proved of every function.
--
-- The words of this page, and where they are defined:
--   Accepted log t      no line of log meets a refusal, and its lines leave the trace t   trace/specs/Trace
--   Orderly t           what the paper says of the ids, runs and lines of a log           trace/specs/Orderly
--   Left lay log t r w  they leave the record r and the pair bytes of the work area w,    reading/specs/Left
--                       in the layout lay
--   work_size, place, Places, NoPair   a layout's bytes, and the place of two runs in it   pairs/specs/Layout
--   MetBytes, MetRule   where a line, and a rule file, meets a refusal                    grammar/specs
--   MetAfter            where a line meets one after other lines                          accepted_logs/specs/MetAfter
--   Met, MetLog ..      where a call meets one                                            claims/specs/WhereMet
--   RuleFile file f     the file is a rule file, and its table stands for the formula f   grammar/specs/Stands
--   Spoken log t        what the lines of log say is what they leave                      accepted_logs/specs/Spoken
--   Settled, Judged, Reads   what a call leaves after accepted lines                      report/specs/Settled
--   read_part, PartOf    the part of a log that is read in a mode, by computing and by what  whole_log/specs/Part
--                       it is
--   log_part, report_part the part that a call reads                                        report/specs/Calls
--   capital, capitals   what a byte of a label counts as; the capitals of a label as written labels/specs/Label
--   RecasedLog, RecasedRule, RecasedText   a log, a rule file, a text in another case      letter_case/specs/Recased
--   Book b es           the bytes b are the label book with the lines es                  label_book/specs/Book
--   LabelAt, MetPiece, TextOfBook, BytesOfLog   a piece of a log, where it is refused, and the text that it has
--   TellsPiece, Hands   the call that tells a piece by its place, and the one that hands it back
--                                                                                         label_book/specs/Piece
--   Lent, Beyond        a lent buffer; what stands behind the bytes that a call writes    report/specs/Calls
--   Grammar.Says text t the text is inside the grammar of typed rules and says the tree t typed_grammar/specs/Grammar
--   formula_said t       the formula that the tree says, each name the level of its exist  typed_grammar/specs/Formula
--   rule_file            the rule file of a formula                                        typed_grammar/specs/File
--   rule_text            the text of a formula                                             typed_grammar/specs/Text
--   MetText             where a typed rule meets a refusal                                typed_grammar/specs/Met
--   ReadCall, WriteCall, MetWriting   the calls on typed rules; where writing is refused  claims/specs/Typed
--   SlipForm f          "not" over a chain of "some" over a part without "some"             slip_form/specs/Form
--   Passes, FirstSlip   a slip passes; it is the first that does                          slip_form/specs/Slips
--   MetFinding, MetPassing   where the calls on slips are refused                         claims/specs/Slips
--   rule_of, formula_of   the rule of a file that meets no refusal, and its formula         rules/specs/Rules
--   Says t f v          v is "holds" if and only if the lines satisfy the formula f       logic/specs/Verdict
--   Related r t a b     runs a and b are finished, and their positions give r             logic/specs/Satisfies
--   nameOf (wordOf ..)  the set of 000 section 4, by the order of two runs' lines         pairs/specs/Word
--   judged v            the outcome of a line that is taken, with the verdict v           single/specs/Line
--   ended, not_read      the answer of a whole-log call                                    reading/, whole_log/specs
--   TallyCounts, tally_after   the counts of a log's lines; the tally of a log             tallies/specs/Tally
--   TextMeans           what the printed text says of a log                               report/specs/Report
--   Repeats             the single-line call, one line after another                      whole_log/specs/Repeated
--   Member, Shown, ShownByThree   sets of relations; what a log shows by three runs       relations/specs
use Rattle.std.specs.Prelude.{ℕ, ◌<◌, ◌≡◌, ◌↔◌, List, Result, Ok}
use Rattle.refusals.specs.declared.Refusal.{Refusal}
use Rattle.relations.specs.Relation.{Relation}
use Rattle.relations.specs.Sets.{Member}
use Rattle.relations.specs.Compose.{Composition, Shown, ShownByThree}
use Rattle.claims.specs.Demand1.{Demand1}
use Rattle.claims.specs.Demand2.{Demand2}
use Rattle.claims.specs.Typed.{TypedRules}
use Rattle.claims.specs.Slips.{Slips}
use Rattle.claims.specs.Layouts.{Layouts}
use Rattle.claims.specs.Modes.{Modes}
use Rattle.claims.specs.LetterCase.{LetterCase}
use Rattle.claims.specs.LabelBook.{LabelBook}

-- "Take any of the 64 × 64 pairs of sets of relations, the empty set included, and any relation. That relation is in
-- the composition that we report for the pair exactly when some accepted log, of any length, has three different
-- finished runs where a member of the first set relates the first run to the second, a member of the second set
-- relates the second to the third, and the relation taken relates the first to the third. Wherever a log shows this,
-- an accepted log with three runs and no others shows it too."
pub record Composes (a b : ℕ) (v : Result ℕ Refusal) : Type 0 where
  pub composition : ℕ
  pub reported : v ≡ Ok composition
  pub exactly : (r : Relation) → Member r composition ↔ ((log : List ℕ) × Shown log a b r)
  pub by_three : (r : Relation) (log : List ℕ) → Shown log a b r → ShownByThree a b r

-- of every answer of the composing call
abbrev pub Demand3 : Type 0
Demand3 = (a b : ℕ) → a < 64 → b < 64 → (v : Result ℕ Refusal) → Composition a b v → Composes a b v

pub record Demands : Type 0 where
  pub first : Demand1
  pub second : Demand2
  pub third : Demand3
  -- rules typed by hand, and written out again
  pub typed : TypedRules
  -- the runs that make a rule fail
  pub slips : Slips
  -- the two layouts of a work area: "give the same verdicts, refusals and relations"
  pub layouts : Layouts
  -- how much of a log is read: "after an F line, nothing further is read"
  pub modes : Modes
  -- labels in either case: "treat a to z as A to Z"
  pub letters : LetterCase
  -- the house label book: "hand back the book's own text where the label is listed"
  pub book : LabelBook
