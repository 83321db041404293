use Rattle.std.proofs.Common.{◌≡◌, ℕ, min, length, take, refl, ap, arith}
use Rattle.std.proofs.lemmas.List.{length-take}
use Rattle.panel.specs.Calls.{meaning}
use Rattle.runs.proofs.Alike.{both_lived}
use Rattle.runs.proofs.agreeing.open_and_run_two.Goals as goal

pub returns-clause-agree : goal.returns-clause-agree
returns-clause-agree g c =
    both_lived (meaning g.P.Pixel.lay (g.S.Shelf.tells g.P.Pixel.solid) g.S.Shelf.becomes g.C.Chain.tells) (meaning g.P.Pixel.lay (g.T.Shelf.tells g.P.Pixel.solid) g.T.Shelf.becomes g.D.Chain.tells) (λ x y. refl)
    c.args.shelf c.args.chain c.args.other_shelf c.args.other_chain c.args.base
    c.args.calls.now (take c.min-n.result c.args.calls.now) c.args.answers.now c.open_and_run-first.new.answers c.args.other_answers.now c.open_and_run-second.new.answers
    (min (min (length c.args.calls.now) (length c.args.answers.now)) (length c.args.other_answers.now)) _ _
    c.open_and_run-first.result c.open_and_run-second.result (let z : c.min-n.result ≡ min (min (length c.args.calls.now) (length c.args.answers.now)) (length c.args.other_answers.now) = omega arith in ap (λ (v : ℕ). take v c.args.calls.now) z) (simp length-take (omega arith)) (simp length-take (omega arith))
    c.open_and_run-first.ensures.lived c.open_and_run-second.ensures.lived
