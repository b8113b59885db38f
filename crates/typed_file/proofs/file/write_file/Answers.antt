-- The four parts, one behind another.
use Rattle.typed_file.proofs.Writing.{wrote_file}
use Rattle.typed_file.proofs.file.write_file.Goals as goal

pub returns : goal.returns
returns c = search wrote_file
