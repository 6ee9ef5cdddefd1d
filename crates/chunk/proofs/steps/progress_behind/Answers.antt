use Rattle.chunk.proofs.steps.progress_behind.Goals as goal

-- src/steps.rt:30:1
pub returns : goal.returns
returns c = rw c.character_count.ensures.0
