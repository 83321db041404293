-- The ages that shows meet.
use Rattle.std.proofs.Common.{◌≡◌, ℕ, ◌+◌, ◌<◌, ◌≢◌, List, length, get_or, set, sym, ap, ◌∙◌, add-one, arith, below_more}
use Rattle.std.proofs.lemmas.List.{get_or-set_same, get_or-set_other}
use Rattle.chain.specs.Screens.{Screens, back_age}
use Rattle.chain.specs.Told.{screens, Untouched}
use Rattle.chain.proofs.Steps.{turn_is_function}
use Rattle.chains.specs.Ways.{Way, Turns, turned_by, later, turnings}
use Rattle.chains.specs.declared.turning.Turning.{Turning}

-- what i swaps made of a chain, and the ages that their shows met
pub record Along {P R : Type 0} (w : Way R) (first now : Turning P R) (ages : List ℕ) (i : ℕ) : Type 0 where
  pub tells : screens now.buffers ≡ turnings w i first.rule (screens first.buffers)
  pub rule : now.rule ≡ later w i first.rule
  pub untouched : Untouched first.buffers now.buffers
  pub met : (k : ℕ) → k < i → get_or ages k 0 ≡ back_age (turnings w k first.rule (screens first.buffers))

-- one age more is noted
note_more : {P : Type 0} (after : ℕ → Screens P) (ages : List ℕ) (i a : ℕ) (t : Screens P) → i < length ages → a ≡ back_age t → t ≡ after i →
    ((k : ℕ) → k < i → get_or ages k 0 ≡ back_age (after k)) → (k : ℕ) → k < i + 1 → get_or (set ages i a) k 0 ≡ back_age (after k)
note_more after ages i a t lt e f old =
    below_more _ _
    (λ k h. let ne : k ≢ i = omega arith in get_or-set_other ages i k a 0 ne ∙ old k h)
    (get_or-set_same ages i a 0 lt ∙ e ∙ ap back_age f)

-- one swap more
turn_more : {P R : Type 0} (w : Way R) (r q : R) (s t u : Screens P) (i : ℕ) → t ≡ turnings w i r s → q ≡ later w i r →
    Turns w q t u → u ≡ turnings w (i + 1) r s
turn_more w r q s t u i e f d =
    turn_is_function t u _ _ d
    ∙ ap (turned_by w q) e
    ∙ ap (λ (p : _). turned_by w p (turnings w i r s)) f
    ∙ sym (ap (λ (n : ℕ). turnings w n r s) (add-one i))

pub along_more : {P R : Type 0} (w : Way R) (first now next : Turning P R) (ages : List ℕ) (i a : ℕ) → Along w first now ages i → i < length ages →
    a ≡ back_age (screens now.buffers) → Turns w now.rule (screens now.buffers) (screens next.buffers) →
    next.rule ≡ w.after now.rule → Untouched now.buffers next.buffers → Along w first next (set ages i a) (i + 1)
along_more w first now next ages i a before lt age turns rule untouched =
    record {
      tells = turn_more w first.rule now.rule (screens first.buffers) (screens now.buffers) (screens next.buffers) i before.tells before.rule turns;
      rule = rule ∙ ap w.after before.rule ∙ sym (ap (λ (n : ℕ). later w n first.rule) (add-one i));
      untouched = record { memory = untouched.memory ∙ before.untouched.memory; lent = untouched.lent ∙ before.untouched.lent };
      met = note_more (λ (k : ℕ). turnings w k first.rule (screens first.buffers)) ages i a (screens now.buffers) lt age before.tells before.met;
    }
