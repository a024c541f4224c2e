-- In the default configuration only numbers that its caller gave can be out of range.
use Rattle.std.proofs.Common.{◌≡◌, inl, inr, ℕ, ◌*◌, min, Bool, true, false, ◌||◌, not, List, length}
use Rattle.std.proofs.Common.{Some, None, refl, sym, subst, arith}
use Rattle.std.specs.Prelude.{if◌then◌else◌, IfSome}
use Rattle.std.specs.List.{list_all}
use Rattle.std.proofs.lemmas.Bool.Decides.{nat_tests}
use Rattle.layout.specs.declared.shape.Layout.{Layout}
use Rattle.model.specs.declared.config.Config.{Config}
use Rattle.model.specs.declared.config.ConfigFault.TheVariants as faults
use Rattle.model.specs.Configs.{first_fault, usual_config, is_page_size, is_outside, fits_page, IsOfCaller}

-- the number of pages is in range if that of frames is
pages_in_range : (frames : ℕ) → is_outside frames 1 1048575 ≡ false
    → is_outside (min (2 * frames) 1048575) frames 1048575 ≡ false
pages_in_range frames h = grind (arith, nat_tests)

chosen : (a b c d : Bool) → (b ≡ false → d ≡ false) → IfSome (if a then Some faults.Words else
    (if b then Some faults.Frames else (if d then Some faults.Pages else
    (if c then Some faults.Layouts else None)))) IsOfCaller
chosen true b c d h = inl refl
chosen false true c d h = inr (inl refl)
chosen false false c true h = let e : true ≡ false = h refl in absurd cc
chosen false false true false h = inr (inr refl)
chosen false false false false h = tt

usual_in_range : (words frames : ℕ) (layouts : List Layout)
    → IfSome (first_fault (usual_config words frames layouts)) IsOfCaller
unfolding first_fault usual_config
usual_in_range words frames layouts = chosen (not (is_page_size words)) (is_outside frames 1 1048575)
    (is_outside (length layouts) 1 256 || not (list_all (fits_page words) layouts))
    (is_outside (min (2 * frames) 1048575) frames 1048575) (pages_in_range frames)

pub rest_in_range : (words frames : ℕ) (layouts : List Layout) (c : Config) → c ≡ usual_config words frames layouts
    → IfSome (first_fault c) IsOfCaller
rest_in_range words frames layouts c e =
    subst (λ (d : Config). IfSome (first_fault d) IsOfCaller) (sym e) (usual_in_range words frames layouts)
