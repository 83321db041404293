use Rattle.std.proofs.Common.{◌≡◌}
use Rattle.chain.specs.Told.{screens, Untouched}
use Rattle.chains.specs.Rotation.{rotations}
use Rattle.chains.proofs.runs.swap_times.Given as goal

abbrev pub invariant-loop : goal.invariant-loop
invariant-loop g l = (screens l.chain.buffers ≡ rotations l.counter (screens l.initial.chain.buffers)) × Untouched l.initial.chain.buffers l.chain.buffers
