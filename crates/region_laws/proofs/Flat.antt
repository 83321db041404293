-- What `append` does to the boxes is what `push` does to the bands.
use Rattle.std.proofs.Common.{◌≡◌, ℕ, ◌+◌, Bool, true, false, ◌&&◌, eqb, List, [], ◌∷◌, ◌++◌, length, take, drop, sym, refl, ap, ◌∙◌, append_assoc, suc-add, zero-add}
use Rattle.std.proofs.lemmas.Bool.{cond-true, cond-false, false≢true}
use Rattle.std.proofs.lemmas.List.{append-nil}
use Rattle.region_laws.specs.Runs.{run, push, tidy}
use Rattle.region_laws.specs.Bands.{Row, Band, boxes, same_row, same_bit, bit, good_row, row_boxes}
use Rattle.region_laws.specs.Spans.{spans}
use Rattle.region_laws.specs.Stacked.{lowered, ends_at}
use Rattle.region_laws.specs.declared.rect.Rect.{Rect}
use Rattle.region_laws.proofs.Tidy.{parts, good_tidy}

-- where the last band's boxes begin
abbrev pub start_of : List Band → ℕ
start_of [] = 0
start_of (b ∷ []) = 0
start_of (b ∷ c ∷ bs) = length (row_boxes b.from b.to b.what) + start_of (c ∷ bs)

-- whether the last band goes on
abbrev pub goes : List Band → Row → ℕ → Bool
goes [] row t = false
goes (b ∷ []) row t = eqb b.to t && same_row b.what row
goes (b ∷ c ∷ bs) row t = goes (c ∷ bs) row t

take_past : (xs ys : List Rect) (n : ℕ) → take (length xs + n) (xs ++ ys) ≡ xs ++ take n ys
take_past [] ys n = ap (λ m. take m ys) (zero-add n)
take_past (x ∷ xs) ys n = ap (λ m. take m (x ∷ xs ++ ys)) (suc-add (length xs) n) ∙ ap (λ v. x ∷ v) (take_past xs ys n)

drop_past : (xs ys : List Rect) (n : ℕ) → drop (length xs + n) (xs ++ ys) ≡ drop n ys
drop_past [] ys n = ap (λ m. drop m ys) (zero-add n)
drop_past (x ∷ xs) ys n = ap (λ m. drop m (x ∷ xs ++ ys)) (suc-add (length xs) n) ∙ drop_past xs ys n

lowered_row : (t b u : ℕ) (r : Row) → lowered u (row_boxes t b r ++ []) ≡ row_boxes t u r ++ []
lowered_row t b u [] = refl
lowered_row t b u (s ∷ ss) = ap (λ v. record { left = s.from; top = t; right = s.to; bottom = u } ∷ v) (lowered_row t b u ss)

-- the last band goes on: its boxes are lowered
pub push_on : (bs : List Band) (row : Row) (t u : ℕ) → goes bs row t ≡ true
    → boxes (push same_row bs t u row) ≡ take (start_of bs) (boxes bs) ++ lowered u (drop (start_of bs) (boxes bs))
push_on [] row t u k = absurd (false≢true k)
push_on (b ∷ []) row t u k = ap boxes (cond-true (eqb b.to t && same_row b.what row) (run b.from u b.what ∷ []) (b ∷ run t u row ∷ []) k) ∙ sym (lowered_row b.from b.to u b.what)
push_on (b ∷ c ∷ bs) row t u k =
    let mine = row_boxes b.from b.to b.what in
    let rest = boxes (c ∷ bs) in
    let s = start_of (c ∷ bs) in
    ap (λ v. mine ++ v) (push_on (c ∷ bs) row t u k)
    ∙ (sym (append_assoc mine (take s rest) (lowered u (drop s rest)))
    ∙ (ap (λ v. v ++ lowered u (drop s rest)) (sym (take_past mine rest s)) ∙ ap (λ v. take (length mine + s) (mine ++ rest) ++ lowered u v) (sym (drop_past mine rest s))))

-- it does not: a band is put under the others
pub push_under : (bs : List Band) (row : Row) (t u : ℕ) → goes bs row t ≡ false → boxes (push same_row bs t u row) ≡ boxes bs ++ row_boxes t u row
push_under [] row t u k = append-nil (row_boxes t u row)
push_under (b ∷ []) row t u k =
    ap boxes (cond-false (eqb b.to t && same_row b.what row) (run b.from u b.what ∷ []) (b ∷ run t u row ∷ []) k)
    ∙ (ap (λ v. row_boxes b.from b.to b.what ++ v) (append-nil (row_boxes t u row)) ∙ ap (λ v. v ++ row_boxes t u row) (sym (append-nil (row_boxes b.from b.to b.what))))
push_under (b ∷ c ∷ bs) row t u k =
    ap (λ v. row_boxes b.from b.to b.what ++ v) (push_under (c ∷ bs) row t u k) ∙ sym (append_assoc (row_boxes b.from b.to b.what) (boxes (c ∷ bs)) (row_boxes t u row))

-- the test on the boxes is the test on the bands
pub spans_row : (low t b : ℕ) (r : Row) → tidy same_bit bit low r ≡ true → spans (row_boxes t b r ++ []) ≡ r
spans_row low t b [] k = refl
spans_row low t b (s ∷ ss) k =
    let p = parts same_bit bit low s ss k in
    let e : true ≡ s.what = sym p.fine in
    let h = spans_row s.to t b ss p.rest in
    λ i. record { from = s.from; to = s.to; what = e i } ∷ h i

ends_row : (t b x : ℕ) (r : Row) → good_row r ≡ true → ends_at (row_boxes t b r ++ []) x ≡ eqb b x
ends_row t b x [] k = absurd (false≢true k)
ends_row t b x (s ∷ ss) k = refl

pub goes_same : (low : ℕ) (bs : List Band) (row : Row) (t : ℕ) → tidy same_row good_row low bs ≡ true
    → (ends_at (drop (start_of bs) (boxes bs)) t && same_row (spans (drop (start_of bs) (boxes bs))) row) ≡ goes bs row t
goes_same low [] row t k = refl
goes_same low (b ∷ []) row t k =
    let p = parts same_row good_row low b [] k in
    let e = ends_row b.from b.to t b.what p.fine in
    let f = spans_row 0 b.from b.to b.what (good_tidy b.what p.fine) in
    λ i. e i && same_row (f i) row
goes_same low (b ∷ c ∷ bs) row t k =
    let p = parts same_row good_row low b (c ∷ bs) k in
    let e = drop_past (row_boxes b.from b.to b.what) (boxes (c ∷ bs)) (start_of (c ∷ bs)) in
    ap (λ v. ends_at v t && same_row (spans v) row) e ∙ goes_same b.to (c ∷ bs) row t p.rest
