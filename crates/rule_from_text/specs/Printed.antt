-- What the program is to print on its two outputs, of the text that it read.
use Rattle.std.specs.Prelude.{ℕ, List}
use Rattle.input.specs.Filled.{Filled}
use Rattle.rules.specs.Limits.{max_file_bytes}
use Rattle.typed.specs.Grammar.{read_text}
use Rattle.typed_file.specs.Answer.{bytes_of, typed_answer}
use Rattle.told.specs.Told.{output_of, error_of, Tells}

-- How much is read. "25 for text .. above 4,096 bytes": one more shows that a text is too long.
abbrev pub text_room : ℕ
text_room = 4097

-- on standard output: the rule file of the text, or nothing where the text is refused
unfoldable pub file_printed : List ℕ → List ℕ
file_printed text = output_of (typed_answer text max_file_bytes) (bytes_of text (read_text text))

-- on standard error: `R`, the number of the text's refusal and LF, or nothing where it is not refused
unfoldable pub refusal_printed : List ℕ → List ℕ
refusal_printed text = error_of (typed_answer text max_file_bytes)

-- What is printed on standard output is s. Where the read brought n bytes it is the file that these bytes give, or nothing where they
-- are refused; if they are the first 4,097 bytes of an input, it is what the whole input gives. Where the read failed it is nothing.
abbrev pub PrintsFile : Filled → List ℕ → List ℕ → Type 0
PrintsFile a text s = Tells file_printed text_room a text s

-- The same of standard error and the line of the refusal, or nothing where the bytes are not refused.
abbrev pub PrintsRefusal : Filled → List ℕ → List ℕ → Type 0
PrintsRefusal a text s = Tells refusal_printed text_room a text s
