use Rattle.std.proofs.Common.{arith}
use Rattle.region_laws.proofs.Counts.{area_left, area_bound}
use Rattle.region_laws.proofs.Pairs.{banded_sound}
use Rattle.region.proofs.bands.Bands.area.Goals as goal

pub overflow_sub-n : goal.overflow_sub-n
overflow_sub-n c = let s = (banded_sound c.args.self.now.boxes.now c.loop-b.b-index c.args.self.now.banded (omega arith)).wide in omega arith

pub overflow_sub-n-in-loop-b : goal.overflow_sub-n-in-loop-b
overflow_sub-n-in-loop-b c = let s = (banded_sound c.args.self.now.boxes.now c.loop-b.b-index c.args.self.now.banded (omega arith)).high in omega arith

pub overflow_mul-n : goal.overflow_mul-n
overflow_mul-n c =
    let e = area_left c.args.self.now.boxes.now c.loop-b.b-index (omega arith) in
    let b = area_bound c.args.self.now.boxes.now c.args.self.now.banded in
    omega arith

pub overflow_add-n : goal.overflow_add-n
overflow_add-n c =
    let e = area_left c.args.self.now.boxes.now c.loop-b.b-index (omega arith) in
    let b = area_bound c.args.self.now.boxes.now c.args.self.now.banded in
    omega arith
