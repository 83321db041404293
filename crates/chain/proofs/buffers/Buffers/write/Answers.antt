use Rattle.chain.proofs.Writing.{found, puts_at}
use Rattle.chain.proofs.buffers.Buffers.write.Goals as goal

pub returns-clause-puts : goal.returns-clause-puts
returns-clause-puts g c =
    let a = c.args in
    let s = a.self.now.state in
    let m = a.self.now.mem.now in
    let at = c.in-Some.at in
    puts_at s m c.put_among.new.memory a.x a.y c.size-size.result at a.p (found s.shape m a.x a.y at c.in-Some.ensures.found) c.size-size.ensures c.put_among.ensures
