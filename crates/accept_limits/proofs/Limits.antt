-- The limits of a demand row as they are written, cell after cell. Assumes nothing.
use Prim.Native.Nat.{ℕ, ◌+◌, ◌≤◌, ◌<◌}
use mathlib.Core.Path.{◌≡◌, refl, ap, ◌∙◌}
use mathlib.Core.List.{List, [], ◌∷◌}
use native.Mathlib.Omega.{arith}
use borrow.Author.Tests.{eq-eqb}
use lib.Dec.{eqb}
use lib.ListN.{length}
use Rattle.whole.specs.Search.{pick}
use Rattle.layout.specs.declared.Row.{Row}
use Rattle.layout.specs.declared.Demands.{Demands}
use Rattle.layout.specs.Laid.{with_entry}
use Rattle.layout.specs.Layout.{cells, row_at, demand_length, demand_columns, demand_of, with_demands}
use Rattle.layout.proofs.Laid.{Laying, laying_none, laying_cell, laying_whole}
use Rattle.accept_ranges.specs.Ranges.{demand_limit}
use Rattle.accept_limits.specs.Limits.{cell_limits, demand_limits}

-- the first i cells have their limits; the list came with its length
pub record Limiting (table came : List ℕ) (n : ℕ) (limits : List ℕ) (i : ℕ) : Type 0 where
  pub all : n ≡ cells table
  pub fits : length came ≡ demand_length (cells table)
  pub reaches : i ≤ cells table
  pub laid : Laying (λ k. k < i) (cells table) limits (demand_columns (λ k. cell_limits (row_at table k)))

pub begins : {n : ℕ} (table limits : List ℕ) → n ≡ cells table → length limits ≡ demand_length (cells table) → Limiting table limits n limits 0
begins table limits all fits =
    record { all = all; fits = fits; reaches = omega arith; laid = laying_none (cells table) limits _ (λ k _ below. omega arith) (omega arith) }

module _ {table came limits : List ℕ} {n i : ℕ} (at : Limiting table came n limits i) where
  pub goes_on : {limits' : List ℕ} {row : Row} {demands : Demands} → i < n → row ≡ row_at table i → demands ≡ cell_limits row → limits' ≡ with_demands n limits i demands → Limiting table came n limits' (i + 1)
  unfolding with_demands
  goes_on h row demands put =
      let below : i < cells table = omega (arith, at.all) in
      record {
        all = at.all;
        fits = at.fits;
        reaches = omega (arith, below);
        laid =
            rw (put, at.all)
            (laying_cell (cells table) limits _ at.laid below refl (λ k below other. omega arith) (λ _. ap (λ d. d.on ∷ d.off ∷ []) (demands ∙ ap cell_limits row)));
      }

  pub ends : {limits' : List ℕ} → n ≤ i → limits' ≡ with_entry limits demand_limit → limits' ≡ pick (eqb (length came) (demand_length (cells table))) (demand_limits table) came
  unfolding demand_of
  ends h put =
      rw (eq-eqb _ _ at.fits)
      (put ∙ laying_whole (cells table) limits (demand_columns (λ k. cell_limits (row_at table k))) at.laid (λ k below. omega (arith, at.all)))

-- what `demand_limits` leaves in a list of a demand row's length
pub limits_made : (table list : List ℕ) {limits : List ℕ} → length list ≡ demand_length (cells table) → limits ≡ pick (eqb (length list) (demand_length (cells table))) (demand_limits table) list → limits ≡ demand_limits table
limits_made table list len e = rw (eq-eqb _ _ len) at e
