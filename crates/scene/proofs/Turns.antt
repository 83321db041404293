-- The front of an array after a part of it was turned by one, and lists of past damages.
use Rattle.std.proofs.Common.{◌≡◌, ℕ, suc, ◌+◌, ◌-◌, ◌<◌, ◌≤◌, min, List, [], ◌∷◌, ◌++◌, map, length, get_or, take, drop, fold, sym, ap, ◌∙◌, ⊎_elim, add-one, arith}
use borrow.Rule.Slice.PartMut.{put_mid, post_of}
use Rattle.std.specs.List.{insert, remove, between}
use Rattle.std.proofs.lemmas.List.{append_assoc, length-append, length-take, length-take-le, length-drop, take_at, drop_at, take-take, take_all, take-append-le, drop-append-le, drop-drop, drop_all, get_or-take, get_or-map, length-map}
use Rattle.std.proofs.lemmas.List.Sums.{fold_more}
use Rattle.std.proofs.lemmas.Slice.{between_is, take-put_mid}
use Rattle.std.proofs.lemmas.Bool.{cases_lt}

-- the part from i to n turned to the left: its first is out of the front of n - 1
pub turned_left : {X : Type 0} (xs : List X) (i n : ℕ) (ys : List X) → n ≤ length xs → i < n → ys ≡ drop 1 (between i n xs) ++ take 1 (between i n xs)
    → take (n - 1) (put_mid i (n - i) xs ys) ≡ remove (take n xs) i
turned_left {X} xs i n ys h l e =
    let b : List X = between i n xs in
    let d : List X = drop 1 b in
    let post : List X = post_of i (n - i) xs in
    let lb : length b ≡ n - i = simp (length-take, length-drop) (omega arith) in
    let ld : length d ≡ n - i - 1 = length-drop 1 b ∙ omega arith in
    let la : length (take i xs) ≡ i = length-take-le i xs (omega arith) in
    let lf : length (take i xs ++ d) ≡ n - 1 = length-append (take i xs) d ∙ omega arith in
    let ed : d ≡ drop (suc i) (take n xs) = ap (drop 1) (between_is xs i n) ∙ drop-drop 1 i (take n xs) ∙ ap (λ (k : ℕ). drop k (take n xs)) (add-one i) in
    ap (λ (zs : List X). take (n - 1) (take i xs ++ (zs ++ post))) e
    ∙ ap (take (n - 1)) (ap (λ (zs : List X). take i xs ++ zs) (append_assoc d (take 1 b) post) ∙ sym (append_assoc (take i xs) d (take 1 b ++ post)))
    ∙ take_at (take i xs ++ d) (take 1 b ++ post) (n - 1) lf
    ∙ (λ k. sym (take-take i n xs (omega arith)) k ++ ed k)

-- the part from j to n turned to the right: the last of the front of n goes to j
pub turned_right : {X : Type 0} (xs : List X) (j n : ℕ) (s : List X) (p : X) (ys : List X) → n ≤ length xs → take n xs ≡ s ++ p ∷ [] → n ≡ length s + 1 → j ≤ length s
    → ys ≡ drop (length (between j n xs) - 1) (between j n xs) ++ take (length (between j n xs) - 1) (between j n xs)
    → take n (put_mid j (n - j) xs ys) ≡ insert s j p
turned_right {X} xs j n s p ys h e ls l ey =
    let b : List X = between j n xs in
    let eb : b ≡ drop j s ++ p ∷ [] = between_is xs j n ∙ ap (drop j) e ∙ drop-append-le j s (p ∷ []) l in
    let ld : length (drop j s) ≡ length s - j = length-drop j s in
    let lb : length b ≡ length s - j + 1 = ap length eb ∙ length-append (drop j s) (p ∷ []) ∙ omega arith in
    let k : length (drop j s) ≡ length b - 1 = omega arith in
    let ed : drop (length b - 1) b ≡ p ∷ [] = ap (drop (length b - 1)) eb ∙ drop_at (drop j s) (p ∷ []) (length b - 1) k in
    let et : take (length b - 1) b ≡ drop j s = ap (take (length b - 1)) eb ∙ take_at (drop j s) (p ∷ []) (length b - 1) k in
    let er : ys ≡ p ∷ drop j s = ey ∙ (λ q. ed q ++ et q) in
    let lr : length ys ≡ suc (length s - j) = ap length er ∙ ap suc ld in
    let ef : take j xs ≡ take j s = sym (take-take j n xs (omega arith)) ∙ ap (take j) e ∙ take-append-le j s (p ∷ []) l in
    take-put_mid j (n - j) xs ys n (omega arith) (omega arith) ∙ (λ q. ef q ++ er q)

-- past the end is at the end
pub inserted_least : {X : Type 0} (xs : List X) (n m : ℕ) (x : X) → m ≡ min n (length xs) → insert xs m x ≡ insert xs n x
inserted_least {X} xs n m x e =
    ⊎_elim
    (λ (h : n < length xs). let f : m ≡ n = omega arith in ap (λ (k : ℕ). insert xs k x) f)
    (λ (h : length xs ≤ n).
    let f : m ≡ length xs = omega arith in
    (λ q. (take_all m xs (omega arith) ∙ sym (take_all n xs h)) q ++ x ∷ (drop_all m xs (omega arith) ∙ sym (drop_all n xs h)) q))
    (cases_lt n (length xs))

pub take_least : {X : Type 0} (xs : List X) (n m k : ℕ) → k ≡ min n m → take k xs ≡ take n (take m xs)
take_least xs n m k e =
    ⊎_elim
    (λ (h : m < n). let f : k ≡ m = omega arith in let l : length (take m xs) ≤ n = simp length-take (omega arith) in ap (λ (i : ℕ). take i xs) f ∙ sym (take_all n (take m xs) l))
    (λ (h : n ≤ m). let f : k ≡ n = omega arith in ap (λ (i : ℕ). take i xs) f ∙ sym (take-take n m xs h))
    (cases_lt m n)

-- one step more of a fold over a list ys, which goes by the first m of a list that tells it
pub fold_told : {X Y A : Type 0} (v : X → Y) (f : A → Y → A) (a : A) (xs : List X) (m i : ℕ) (x : X) (e e' : A) → x ≡ get_or (take m xs) i x → i < length (take m xs) → e ≡ fold f a (take i (map v xs)) → e' ≡ f e (v x)
    → e' ≡ fold f a (take (i + 1) (map v xs))
fold_told v f a xs m i x e e' is h inv step =
    let l : i < length xs = omega (arith, length-take m xs) in
    let k : i < m = omega (arith, length-take m xs) in
    let t : v x ≡ get_or (map v xs) i (v x) = ap v (is ∙ get_or-take m xs i x k) ∙ sym (get_or-map v xs i x (v x) l) in
    step ∙ (λ j. f (inv j) (t j)) ∙ sym (fold_more f a (map v xs) i (v x) (omega (arith, length-map xs v)))

-- one more past damage, where fewer than seven are there
pub one_more : {X : Type 0} (x a b c d e f g : X) (n : ℕ) → n < 7
    → take (n + 1) (x ∷ a ∷ b ∷ c ∷ d ∷ e ∷ f ∷ []) ≡ take 7 (x ∷ take n (a ∷ b ∷ c ∷ d ∷ e ∷ f ∷ g ∷ []))
one_more {X} x a b c d e f g n h =
    let six : List X = a ∷ b ∷ c ∷ d ∷ e ∷ f ∷ [] in
    let l : length (take n (six ++ g ∷ [])) ≤ 6 = simp length-take (omega arith) in
    let m : n ≤ length six = omega arith in
    ap (λ (k : ℕ). take k (x ∷ six)) (add-one n) ∙ ap (λ (zs : List X). x ∷ zs) (sym (take-append-le n six (g ∷ []) m) ∙ sym (take_all 6 (take n (six ++ g ∷ [])) l))
