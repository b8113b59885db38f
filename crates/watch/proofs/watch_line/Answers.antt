-- Where no line is read nothing changes.
use Rattle.watch.proofs.Bytes.{line_counted}
use Rattle.watch.proofs.watch_line.Goals as goal

pub slice_bounds-line-end : goal.slice_bounds-line-end
slice_bounds-line-end c = (line_counted _ _ _ c.in-Ok.is c.read_line-a.ensures).0

pub slice_bounds-take_line-end : goal.slice_bounds-take_line-end
slice_bounds-take_line-end c = (line_counted _ _ _ c.in-Ok.is c.read_line-a.ensures).1
