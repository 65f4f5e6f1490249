-- Prefixes of a list, and induction along them.
-- Assumes nothing.
use mathlib.Core.Path.{◌≡◌, refl, sym, ◌∙◌, ap, subst}
use mathlib.Core.Logic.{◌⊎◌, inl, inr, ⊎_elim}
use mathlib.Core.List.{List, [], ◌∷◌, ◌++◌, append-nil, append_assoc, nil≢cons, head-eq_of_cons-eq, tail-eq_of_cons-eq}
use lib.Seq.{append_snoc}

module _ {A : Type 0} where
  -- A list begins with another, and an entry stands in it after others.
  abbrev pub Prefix : List A → List A → Type 0
  Prefix a b = (rest : List A) × (b ≡ a ++ rest)

  abbrev pub Stands : A → List A → List A → Type 0
  Stands c before whole = (rest : List A) × (whole ≡ before ++ (c ∷ rest))

  pub prefix_refl : (a : List A) → Prefix a a
  prefix_refl a = ([], sym (append-nil a))

  pub prefix_trans : (a b c : List A) → Prefix a b → Prefix b c → Prefix a c
  prefix_trans a b c p q = (p.0 ++ q.0, q.1 ∙ ap (λ x. x ++ q.0) p.1 ∙ append_assoc a p.0 q.0)

  prefix-nil : (a : List A) → Prefix a [] → a ≡ []
  prefix-nil [] p = refl
  prefix-nil (x ∷ a) p = absurd (nil≢cons p.1)

  prefix-snoc : (a before : List A) (c : A) → Prefix a (before ++ (c ∷ [])) → Prefix a before ⊎ (a ≡ before ++ (c ∷ []))
  prefix-snoc [] before c p = inl (before, refl)
  prefix-snoc (x ∷ a) [] c p =
      let h : c ≡ x = head-eq_of_cons-eq p.1 in
      let t : [] ≡ a ++ p.0 = tail-eq_of_cons-eq p.1 in
      inr (ap (λ z. z ∷ a) (sym h) ∙ ap (λ z. c ∷ z) (prefix-nil a (p.0, t)))
  prefix-snoc (x ∷ a) (y ∷ before) c p =
      let h : y ≡ x = head-eq_of_cons-eq p.1 in
      let t : before ++ (c ∷ []) ≡ a ++ p.0 = tail-eq_of_cons-eq p.1 in
      ⊎_elim
      (λ r. inl (r.0, ap (λ z. z ∷ before) h ∙ ap (λ z. x ∷ z) r.1))
      (λ e. inr (ap (λ z. z ∷ a) (sym h) ∙ ap (λ z. y ∷ z) e))
      (prefix-snoc a before c (p.0, t))

  pub stands-prefix : (c : A) (before whole : List A) → Stands c before whole → Prefix before whole
  stands-prefix c before whole h = (c ∷ h.0, h.1)

  pub stands-next : (c : A) (before whole : List A) → Stands c before whole → Prefix (before ++ (c ∷ [])) whole
  stands-next c before whole h = (h.0, h.1 ∙ sym (append_snoc before c h.0))

  next-stands : (c : A) (before whole : List A) → Prefix (before ++ (c ∷ [])) whole → Stands c before whole
  next-stands c before whole p = (p.0, p.1 ∙ append_snoc before c p.0)

  pub stands-in : (c : A) (earlier before whole : List A) → Stands c earlier before → Prefix before whole → Stands c earlier whole
  stands-in c earlier before whole h p =
      next-stands c earlier whole (prefix_trans (earlier ++ (c ∷ [])) before whole (stands-next c earlier before h) p)

  -- What holds of the empty list, and of each prefix where it holds of all before it, holds of all prefixes.
  pub along : (whole : List A) (P : List A → Type 0) → P []
      → ((before : List A) (c : A) → Stands c before whole → ((earlier : List A) → Prefix earlier before → P earlier) → P (before ++ (c ∷ [])))
      → (before : List A) → Prefix before whole → P before
  along whole P start next = go [] whole refl (λ earlier p. subst P (sym (prefix-nil earlier p)) start)
    where
      go : (done rest : List A) → whole ≡ done ++ rest → ((earlier : List A) → Prefix earlier done → P earlier)
          → (before : List A) → Prefix before whole → P before
      go done [] e h = λ before p. h before (p.0, sym (e ∙ append-nil done) ∙ p.1)
      go done (c ∷ rest) e h =
          go (done ++ (c ∷ [])) rest (e ∙ sym (append_snoc done c rest))
          (λ earlier p. ⊎_elim (λ q. h earlier q) (λ x. subst P (sym x) (next done c (rest, e) h)) (prefix-snoc earlier done c p))
