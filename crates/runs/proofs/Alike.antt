-- Two runs of the same calls agree.
use Rattle.std.proofs.Common.{◌≡◌, ℕ, List, [], ◌∷◌, map, reverse, take, Ok, Err, Result, sym, refl, ap, ◌∙◌, arith, MatchResult}
use mathlib.Core.List.{reverse-reverse}
use Rattle.std.proofs.lemmas.List.{take-take}
use Rattle.reference.specs.declared.call.Call.{Call}
use Rattle.reference.specs.declared.answer.Answer.{Answer}
use Rattle.reference.specs.Refusals.{open_refusal}
use Rattle.reference.specs.History.{Event, World}
use Rattle.reference.specs.Agreement.{Both, Alike}
use Rattle.reference_laws.proofs.Agreeing.{frames_stay_alike}
use Rattle.panel.specs.declared.panel.Panel.{Panel}
use Rattle.panel.specs.declared.panel.Unopened.{Unopened}
use Rattle.panel.specs.Calls.{Meaning}
use Rattle.runs.specs.Runs.{world_from, Lived, NeverOpened, TellSameThroughout, TwoLived, OpenAlike}

-- the calls of a part of the calls
pub lived_part : {P S C : Type 0} (m : Meaning P S C) (s : S) (c : C) (base : P) (calls part : List Call) (answers : List Answer) (n k : ℕ) (p : Panel P S C) → part ≡ take n calls → k ≡ n → Lived m s c base part answers k p → Lived m s c base calls answers n p
lived_part m s c base calls part answers n k p e z l = record {
  opened = l.opened;
  events = l.events;
  called = l.called ∙ (ap (take k) e ∙ (ap (λ v. take v (take n calls)) z ∙ take-take n n calls (omega arith)));
  answered = l.answered ∙ ap (λ v. take v answers) z;
  lawful = l.lawful;
  shelf = l.shelf;
  screens = l.screens;
}

-- shelves that tell the same, and equal calls
alike_all : {P S T : Type 0} (v : World P S) (w : World P T) (es : List (Event P S)) (fs : List (Event P T)) → map (λ e. e.call) es ≡ map (λ e. e.call) fs → TellSameThroughout v.tells w.tells es fs → Both (Alike v w) es fs
alike_all v w [] [] e h = tt
alike_all v w [] (f ∷ fs) e h = absurd h
alike_all v w (x ∷ es) [] e h = absurd h
alike_all v w (x ∷ es) (f ∷ fs) e h = (record { call = cc; told = h.0 }, alike_all v w es fs (cc) h.1)

same_calls : (xs ys : List Call) → reverse xs ≡ reverse ys → xs ≡ ys
same_calls xs ys e = sym (reverse-reverse xs) ∙ (ap reverse e ∙ reverse-reverse ys)

module _ {P S C T D : Type 0} (m : Meaning P S C) (k : Meaning P T D) (lay : (x y : P) → m.lay x y ≡ k.lay x y) (s : S) (c : C) (t : T) (d : D) (base : P) where
  pub open_alike : OpenAlike m k c d
  open_alike e f = ap (λ v. open_refusal v (m.screens c).height) e ∙ ap (open_refusal (k.screens d).width) f

  two_lived : (calls : List Call) (first second : List Answer) (n : ℕ) (p : Panel P S C) (q : Panel P T D) → Lived m s c base calls first n p → Lived k t d base calls second n q → TwoLived m k s c t d base calls first second n p q
  two_lived calls first second n p q a b = record {
    one = a;
    other = b;
    agreed = record {
      frames_agree = λ w h same.
          frames_stay_alike (world_from m c base) (world_from k d base) (record { lay = lay; base = refl; width = w; height = h })
          (record { lay = lay; base = refl; width = w; height = h }) s (m.screens c) a.events t (k.screens d) b.events a.lawful b.lawful
          (alike_all (world_from m c base) (world_from k d base) a.events b.events (same_calls (map (λ e. e.call) a.events) (map (λ e. e.call) b.events) (a.called ∙ sym b.called)) same);
    };
  }

  -- as the two openings came out
  pub both_lived : (calls part : List Call) (first first' second second' : List Answer) (n i j : ℕ) (x : Result (Panel P S C) (Unopened S C)) (y : Result (Panel P T D) (Unopened T D)) → part ≡ take n calls → i ≡ n → j ≡ n
      → MatchResult x (λ p. Lived m s c base part first' i p) (λ u. NeverOpened m s c first first' u) → MatchResult y (λ q. Lived k t d base part second' j q) (λ u. NeverOpened k t d second second' u)
      → MatchResult x (λ p. MatchResult y (λ q. TwoLived m k s c t d base calls first' second' n p q) (λ u. NeverOpened k t d second second' u)) (λ u. NeverOpened m s c first first' u)
  both_lived calls part first first' second second' n i j (Ok p) (Ok q) e f g a b = two_lived calls first' second' n p q (lived_part m s c base calls part first' n i p e f a) (lived_part k t d base calls part second' n j q e g b)
  both_lived calls part first first' second second' n i j (Ok p) (Err u) e f g a b = b
  both_lived calls part first first' second second' n i j (Err u) y e f g a b = a
