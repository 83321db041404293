use Rattle.std.proofs.Common.{◌≡◌, ℕ, ◌<◌, ◌≤◌, ◌+◌, cond, eqb, ltb, List, length, get_or, set, rules, arith}
use Rattle.std.proofs.lemmas.Grind.{common_steps}
use Rattle.chain.specs.Ages.{older}
use Rattle.chain.proofs.ages.Ages.show.Goals as goal

aged_at : (old items : List ℕ) (k i a : ℕ) → k < length items → a ≡ older (get_or items k 0) → ((j : ℕ) → get_or items j 0 ≡ cond (ltb j k) (older (get_or old j 0)) (get_or old j 0)) →
    get_or (set items k a) i 0 ≡ cond (ltb i (k + 1)) (older (get_or old i 0)) (get_or old i 0)
aged_at old items k i a lt e each = let h = each i in let g = each k in grind (arith, common_steps)

shown_at : (old items : List ℕ) (k s b : ℕ) → length old ≡ 4 → length items ≡ 4 → s < 4 → 4 ≤ k → ((i : ℕ) → get_or items i 0 ≡ cond (ltb i k) (older (get_or old i 0)) (get_or old i 0)) →
    get_or (set items s 1) b 0 ≡ cond (eqb b s) 1 (older (get_or old b 0))
shown_at old items k s b l m lt u each = let e = each b in grind (arith, common_steps)

pub loop-age-init : goal.loop-age-init
loop-age-init c = (search rules, λ i. search rules)

pub loop-age-preserved : goal.loop-age-preserved
loop-age-preserved c =
    let m = c.loop-age.invariant.0 in
    (search rules, λ i. aged_at c.args.self.now.by_buffer c.loop-age.age-items c.loop-age.age-index i c.aged.result (omega arith) c.aged.ensures c.loop-age.invariant.1)

pub invariant_of-self : goal.invariant_of-self
invariant_of-self c = let m = c.loop-age.invariant.0 in record { long = search rules }

pub returns : goal.returns
returns c = λ b. shown_at _ c.loop-age.age-items c.loop-age.age-index c.args.shown b c.args.self.now.long c.loop-age.invariant.0 c.requires c.loop-age-test.false c.loop-age.invariant.1
