-- What the program is to print on its two outputs, of the rule file that it read.
use Rattle.std.specs.Prelude.{ℕ, List}
use Rattle.input.specs.Filled.{Filled}
use Rattle.rules.specs.Rules.{rule_of}
use Rattle.rule_text.specs.Text.{bytes_of, text_answer}
use Rattle.told.specs.Told.{output_of, error_of, Tells}

-- How much is read. "The longest file has 599 bytes": one more shows that a file is too long.
abbrev pub rule_room : ℕ
rule_room = 600

-- "in a buffer of at least 4,096 bytes"
abbrev pub text_size : ℕ
text_size = 4096

-- on standard output: the text of the file's rule, or nothing where the file is refused
unfoldable pub text_printed : List ℕ → List ℕ
text_printed file = output_of (text_answer file text_size) (bytes_of file (rule_of file))

-- on standard error: `R`, the number of the file's refusal and LF, or nothing where it is not refused
unfoldable pub refusal_printed : List ℕ → List ℕ
refusal_printed file = error_of (text_answer file text_size)

-- What is printed on standard output is s. Where the read brought n bytes it is the text that these bytes give, or nothing where they
-- are refused; if they are the first 600 bytes of an input, it is what the whole input gives. Where the read failed it is nothing.
abbrev pub PrintsText : Filled → List ℕ → List ℕ → Type 0
PrintsText a rule s = Tells text_printed rule_room a rule s

-- The same of standard error and the line of the refusal, or nothing where the bytes are not refused.
abbrev pub PrintsRefusal : Filled → List ℕ → List ℕ → Type 0
PrintsRefusal a rule s = Tells refusal_printed rule_room a rule s
