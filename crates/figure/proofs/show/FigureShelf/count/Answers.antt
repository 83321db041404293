use Rattle.figure.proofs.Changes.{drawn}
use Rattle.figure.proofs.show.FigureShelf.count.Goals as goal

pub returns-clause-drawn : goal.returns-clause-drawn
returns-clause-drawn g c = drawn _ _ _ _
