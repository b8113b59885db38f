-- A store keeps the length of the buffer.
use Rattle.std.proofs.Common.{arith, length-set}
use Rattle.test_cases.proofs.put.Goals as goal

pub returns-in-Byte : goal.returns-in-Byte
returns-in-Byte c = simp length-set (omega arith)
