-- A run makes one call more.
use Rattle.std.proofs.Common.{◌≡◌, ℕ, ◌+◌, ◌<◌, List, [], ◌∷◌, ◌++◌, map, length, get_or, drop, set, sym, ap, ◌∙◌, arith}
use mathlib.Core.List.{reverse-cons}
use Rattle.std.proofs.lemmas.List.{take_more, take_more_set, drop-set-lt, drop-drop}
use Rattle.reference.specs.declared.call.Call.{Call}
use Rattle.reference.specs.declared.answer.Answer.{Answer}
use Rattle.reference.specs.History.{Event}
use Rattle.reference.specs.Kept.{event}
use Rattle.panel.specs.declared.panel.Panel.{Panel}
use Rattle.panel.specs.Calls.{Meaning, Keeps}
use Rattle.runs.specs.Runs.{Runs}

-- what comes after a write stays
pub others_more : {X : Type 0} (xs ys : List X) (i : ℕ) (x : X) → drop i xs ≡ drop i ys → drop (i + 1) (set xs i x) ≡ drop (i + 1) ys
others_more xs ys i x e = drop-set-lt (i + 1) xs i x (omega arith) ∙ sym (drop-drop 1 i xs) ∙ ap (drop 1) e ∙ drop-drop 1 i ys

module _ {P S C : Type 0} (m : Meaning P S C) where
  pub runs_more : (p q r : Panel P S C) (calls : List Call) (answers : List Answer) (i : ℕ) (d : Call) (a : Answer) → i < length calls → i < length answers
      → Runs m p calls answers i q → Keeps m q (get_or calls i d) a r → Runs m p calls (set answers i a) (i + 1) r
  runs_more p q r calls answers i d a lc la run keeps s c es k =
      let done = run s c es k in
      let e : Event P S = event (get_or calls i d) a q.shelf (m.screens q.chain) r.shelf (m.screens r.chain) in
      record {
        made = e ∷ done.made;
        called = reverse-cons (get_or calls i d) (map (λ v. v.call) done.made) ∙ (ap (λ v. v ++ (get_or calls i d ∷ [])) done.called ∙ sym (take_more calls i d lc));
        answered = reverse-cons a (map (λ v. v.answer) done.made) ∙ (ap (λ v. v ++ (a ∷ [])) done.answered ∙ sym (take_more_set answers i a la));
        kept = keeps s c (done.made ++ es) done.kept;
      }
