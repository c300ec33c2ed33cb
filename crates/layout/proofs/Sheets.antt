-- A sheet on its way, as a walk up the road meets it, from each column's end: the flows out of the positions from f on, s of the cells from s
-- on, r of those from r on and the modes of those from m on are stored. Assumes nothing.
use Prim.Native.Nat.{ℕ, suc, ◌+◌, ◌≤◌, ◌<◌}
use mathlib.Core.Path.{◌≡◌, sym, ◌∙◌}
use mathlib.Core.List.{List}
use native.Mathlib.Decide.{ℕ_discrete}
use native.Mathlib.Omega.{arith}
use lib.ListN.{length, get_or, set, length-set}
use lib.Seq.{get_or-set_same, get_or-set_other, ext_get_or}
use Rattle.layout.specs.Sheet.{sheet_length, sheet_from, with_flow, with_off_flow, with_on_flow, with_mode}
use Rattle.layout.proofs.Readers.{sheet_length_lem, sheet_flow, sheet_off, sheet_on, sheet_mode}

module _ (n : ℕ) (flow off on mode : ℕ → ℕ) where
  abbrev whole : List ℕ
  whole = sheet_from n flow off on mode

  -- none of the numbers that are still to be stored stands at the place
  pub record Behind (f s r m place : ℕ) : Type 0 where
    pub flows : place < f → ⊥
    pub offs : n < place → place < 1 + n + s → ⊥
    pub ons : n + n < place → place < 1 + n + n + r → ⊥
    pub modes : n + n + n < place → place < 1 + n + n + n + m → ⊥

  pub record Sheeting (f s r m : ℕ) (sheet : List ℕ) : Type 0 where
    pub len : length sheet ≡ sheet_length n
    pub same : (place : ℕ) → place < sheet_length n → Behind f s r m place → get_or sheet place 0 ≡ get_or whole place 0

  -- nothing is stored yet: each place is one of a column's
  pub nothing_stored : {sheet : List ℕ} → length sheet ≡ sheet_length n → Sheeting (suc n) n n n sheet
  nothing_stored len = record { len = len; same = λ place inside behind. absurd (none place inside behind) }
    where
      none : (place : ℕ) → place < sheet_length n → Behind (suc n) n n n place → ⊥
      none place inside behind =
          let past-flows : n < place = omega (arith, behind.flows) in
          let past-offs : n + n < place = omega (arith, behind.offs past-flows) in
          let past-ons : n + n + n < place = omega (arith, behind.ons past-offs) in
          behind.modes past-ons (omega arith)

  -- all is stored
  pub is_sheet : {sheet : List ℕ} → Sheeting 0 0 0 0 sheet → sheet ≡ whole
  is_sheet {sheet} so =
      ext_get_or 0 sheet whole (so.len ∙ sym (sheet_length_lem n flow off on mode))
      (λ place inside. so.same place (omega (arith, so.len)) (record { flows = λ h. omega arith; offs = λ h k. omega arith; ons = λ h k. omega arith; modes = λ h k. omega arith }))

  -- a number of the whole sheet is stored in its place
  store : {f s r m f' s' r' m' : ℕ} {sheet : List ℕ} (at value : ℕ) → Sheeting f s r m sheet → at < sheet_length n → value ≡ get_or whole at 0 → ((place : ℕ) → (place ≡ at → ⊥) → Behind f' s' r' m' place → Behind f s r m place) → Sheeting f' s' r' m' (set sheet at value)
  store {f' = f'} {s'} {r'} {m'} {sheet} at value so inside own other =
      record { len = length-set sheet at value ∙ so.len; same = λ place below behind. by place below behind (ℕ_discrete place at) }
    where
      by : (place : ℕ) → place < sheet_length n → Behind f' s' r' m' place → Dec (place ≡ at) → get_or (set sheet at value) place 0 ≡ get_or whole place 0
      by place below behind (yes e) = rw e (get_or-set_same sheet at value 0 (omega (arith, so.len)) ∙ own)
      by place below behind (no elsewhere) =
          get_or-set_other sheet at place value 0 elsewhere ∙ so.same place below (other place elsewhere behind)

  -- The next number of each column, up the road.

  pub flow_stored : {f s r m value : ℕ} {sheet : List ℕ} → Sheeting (suc f) s r m sheet → f ≤ n → value ≡ flow f → Sheeting f s r m (with_flow sheet f value)
  flow_stored {f} {value = value} so inside own =
      store f value so (omega arith) (own ∙ sym (sheet_flow n flow off on mode f inside))
      (λ place elsewhere behind. record { flows = λ h. behind.flows (omega (arith, elsewhere)); offs = behind.offs; ons = behind.ons; modes = behind.modes })

  pub off_stored : {f s r m value : ℕ} {sheet : List ℕ} → Sheeting f (suc s) r m sheet → s < n → value ≡ off s → Sheeting f s r m (with_off_flow n sheet s value)
  off_stored {s = s} {value = value} so inside own =
      store (1 + n + s) value so (omega arith) (own ∙ sym (sheet_off n flow off on mode s inside))
      (λ place elsewhere behind. record { flows = behind.flows; offs = λ h k. behind.offs h (omega (arith, elsewhere)); ons = behind.ons; modes = behind.modes })

  pub on_stored : {f s r m value : ℕ} {sheet : List ℕ} → Sheeting f s (suc r) m sheet → r < n → value ≡ on r → Sheeting f s r m (with_on_flow n sheet r value)
  on_stored {r = r} {value = value} so inside own =
      store (1 + n + n + r) value so (omega arith) (own ∙ sym (sheet_on n flow off on mode r inside))
      (λ place elsewhere behind. record { flows = behind.flows; offs = behind.offs; ons = λ h k. behind.ons h (omega (arith, elsewhere)); modes = behind.modes })

  pub mode_stored : {f s r m value : ℕ} {sheet : List ℕ} → Sheeting f s r (suc m) sheet → m < n → value ≡ mode m → Sheeting f s r m (with_mode n sheet m value)
  mode_stored {m = m} {value = value} so inside own =
      store (1 + n + n + n + m) value so (omega arith) (own ∙ sym (sheet_mode n flow off on mode m inside))
      (λ place elsewhere behind. record { flows = behind.flows; offs = behind.offs; ons = behind.ons; modes = λ h k. behind.modes h (omega (arith, elsewhere)) })
