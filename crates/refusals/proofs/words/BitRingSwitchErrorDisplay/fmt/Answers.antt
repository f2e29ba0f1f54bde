use Rattle.refusals.proofs.words.BitRingSwitchErrorDisplay.fmt.Goals as goal

pub returns-in-RowVariables-clause-writes : goal.returns-in-RowVariables-clause-writes
returns-in-RowVariables-clause-writes g c = rw c.in-RowVariables.is c.write.ensures.writes

pub returns-in-PointTooNarrow-clause-writes : goal.returns-in-PointTooNarrow-clause-writes
returns-in-PointTooNarrow-clause-writes g c = rw c.in-PointTooNarrow.is c.write-in-PointTooNarrow.ensures.writes

pub returns-in-WidthMismatch-clause-writes : goal.returns-in-WidthMismatch-clause-writes
returns-in-WidthMismatch-clause-writes g c = rw c.in-WidthMismatch.is c.write-in-WidthMismatch.ensures.writes

pub returns-in-BatchWidthMismatch-clause-writes : goal.returns-in-BatchWidthMismatch-clause-writes
returns-in-BatchWidthMismatch-clause-writes g c = rw c.in-BatchWidthMismatch.is c.write-in-BatchWidthMismatch.ensures.writes

pub returns-in-WeightIndex-clause-writes : goal.returns-in-WeightIndex-clause-writes
returns-in-WeightIndex-clause-writes g c = rw c.in-WeightIndex.is c.write-in-WeightIndex.ensures.writes

pub returns-in-ClosingWidth-clause-writes : goal.returns-in-ClosingWidth-clause-writes
returns-in-ClosingWidth-clause-writes g c = rw c.in-ClosingWidth.is c.write-in-ClosingWidth.ensures.writes
