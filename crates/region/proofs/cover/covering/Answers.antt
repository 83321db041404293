use Rattle.std.proofs.Common.{◌≡◌, refl, subst, rules}
use Rattle.std.proofs.lemmas.Fn.{fold_over, slice_gives, fronts}
use Rattle.region_laws.specs.Joined.{cover_from}
use Rattle.region.proofs.Lists.{cover_push}
use Rattle.region.proofs.cover.covering.Goals as goal

pub returns : goal.returns
returns c =
    subst (λ l. c.fold.result ≡ cover_from c.args.c l) c.iter.ensures.rest
    (fold_over fronts (λ y. y.now) _ (λ ys a. a ≡ cover_from c.args.c ys) _ (λ ys a x b f' j k. let e = cover_push c.args.c ys x.now in search rules)
    _ _ _ _ (slice_gives c.iter.result) refl c.fold.ensures.ran)
