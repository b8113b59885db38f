-- The line of a refusal stands at the start of the buffer; else no byte of it is told.
use Rattle.told.proofs.Told.{no_error, error-put}
use Rattle.told.proofs.put_error.Goals as goal

pub returns-in-Length : goal.returns-in-Length
returns-in-Length c = search no_error

pub returns-in-Refused : goal.returns-in-Refused
returns-in-Refused c = search error-put
