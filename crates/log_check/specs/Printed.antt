-- What the program is to print, of what it read.
use Rattle.std.specs.Prelude.{ℕ, ◌≡◌, ◌↔◌, cond, List, [], take}
use Rattle.lists.specs.Lists.{bytes, same?}
use Rattle.input.specs.Counts.{IsPrefixLen}
use Rattle.std.specs.declared.io.Error.{Error}
use Rattle.input.specs.Filled.{Filled}
use Rattle.std.specs.Prelude.{Ok, Err}
use Rattle.whole_log.specs.declared.Mode.{Mode}
use Rattle.whole_log.specs.declared.Mode.TheVariants.{FirstFailure, Full}
use Rattle.whole_log.specs.Part.{read_part}
use Rattle.report.specs.Text.{report_text}

-- How much is read. "The longest file has 599 bytes": one more shows that a file is too long.
abbrev pub rule_room : ℕ
rule_room = 600

-- "the first 8,192 bytes decide every answer"
abbrev pub log_room : ℕ
log_room = 8192

-- "The full mode is named .. to the program by `full` as its first argument (any other, or none, leaves the default)"
abbrev pub mode_said : List ℕ → Mode
mode_said word = cond (same? word (bytes "full")) Full FirstFailure

-- the first n bytes of the buffer are the report, in a mode, of the bytes that are read of the rule file and the log
pub record Printed (mode : Mode) (rule log text : List ℕ) (n : ℕ) : Type 0 where
  pub counts : IsPrefixLen n text
  pub bytes : take n text ≡ report_text rule (read_part mode rule log)
  -- these are the first bytes of a rule file and a log: the report is that of the whole file and the whole log
  pub whole : (file input : List ℕ) → rule ≡ take rule_room file → log ≡ take log_room input → take n text ≡ report_text file (read_part mode file input)

-- What is printed is the text s: the report, in the mode that the word names, of the first n bytes of one buffer and the first m of the
-- other, where the two reads brought as many, and nothing where a read failed.
pub record Prints (word : List ℕ) (r : Filled) (rule : List ℕ) (l : Filled) (log s : List ℕ) : Type 0 where
  pub read : (n m : ℕ) → r ≡ Ok n → l ≡ Ok m → s ≡ report_text (take n rule) (read_part (mode_said word) (take n rule) (take m log))
  -- these are the first bytes of a rule file and a log: the report is that of the whole file and the whole log
  pub whole : (n m : ℕ) → r ≡ Ok n → l ≡ Ok m → (file input : List ℕ) → take n rule ≡ take rule_room file → take m log ≡ take log_room input
      → s ≡ report_text file (read_part (mode_said word) file input)
  pub rule_failed : (x : Error) → r ≡ Err x → s ≡ []
  pub log_failed : (x : Error) → l ≡ Err x → s ≡ []
  -- "exactly": no other word names the full mode
  pub full : (mode_said word ≡ Full) ↔ (word ≡ bytes "full")
