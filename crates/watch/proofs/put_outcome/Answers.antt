-- Each outcome has its own line.
use Rattle.watch.proofs.Texts.{holds-put, fails-put, refused_put}
use Rattle.watch.proofs.put_outcome.Goals as goal

pub returns-in-Holds : goal.returns-in-Holds
returns-in-Holds c = search holds-put

pub returns-in-Fails : goal.returns-in-Fails
returns-in-Fails c = search fails-put

pub returns-in-Refused : goal.returns-in-Refused
returns-in-Refused c = search refused_put
