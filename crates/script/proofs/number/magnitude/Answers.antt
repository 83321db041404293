use Rattle.std.proofs.Common.{◌≡◌, ℕ, ◌+◌, ◌-◌, ◌*◌, ◌^◌, ◌<◌, ◌≤◌, get_or, pow-suc, add-one, arith, rules}
use Rattle.std.proofs.lemmas.Bool.Decides.{nat_tests}
use Rattle.std.proofs.lemmas.Int.{ints}
use Rattle.std.proofs.Math.Nat.{pow-le-pow_right}
use Rattle.std.proofs.lemmas.List.{at_drop_more}
use Rattle.std.specs.Str.{all_ascii_digits}
use Rattle.script.specs.Numbers.{read_on}
use Rattle.script.proofs.number.magnitude.Goals as goal

ten : (i : ℕ) → 10 ^ (i + 1) ≡ 10 ^ i * 10
ten i = rw add-one (pow-suc 10 i)

pub loop-b-preserved : goal.loop-b-preserved
loop-b-preserved c =
    let m = c.loop-b.invariant.0 in
    let b = get_or c.args.digits.now c.loop-b.b-index 0 in
    let digit : (48 ≤ b) × (b ≤ 57) = grind (arith, nat_tests) in
    let more : m * 10 + (b - 48) < 10 ^ (c.loop-b.b-index + 1) = omega (arith, ten c.loop-b.b-index) in
    let least : 10 ^ (c.loop-b.b-index + 1) ≤ 10 ^ 10 = pow-le-pow_right {n = 10} (omega arith) {i = c.loop-b.b-index + 1} {j = 10} (omega arith) in
    (m * 10 + (b - 48), omega (arith, ints), more, search (rules, at_drop_more (read_on m)), search (rules, at_drop_more all_ascii_digits))
