-- A list that is filled place by place.
use Rattle.std.proofs.Common.{◌≡◌, ℕ, ◌+◌, ◌<◌, List, length, get_or, set, ◌∙◌, arith, get_or-set_other, get_or-set_same, below_more}

-- What is stored at k is what f gives for k, as it is below k.
pub set_below : {A : Type 0} (f : ℕ → A) (l : List A) (k : ℕ) (v d : A) → k < length l → v ≡ f k → ((j : ℕ) → j < k → get_or l j d ≡ f j) → (j : ℕ) → j < k + 1 → get_or (set l k v) j d ≡ f j
set_below {A} f l k v d h e all =
    below_more (λ (j : ℕ). get_or (set l k v) j d ≡ f j) k
    (λ j m. get_or-set_other l k j v d (λ x. omega arith) ∙ all j m)
    (get_or-set_same l k v d h ∙ e)
