-- Each step keeps the invariant, and so does each list of steps.
use Rattle.laws.specs.AddressHeap.{AddressHeap}
use Rattle.laws.specs.BirthHeap.{BirthHeap}
use Rattle.laws.specs.Invariant.{Invariant}
use Rattle.laws.specs.Transitions.{Transition, TakeFresh, New, Load, LoadGlobal, TrapMoved, TrapCopied}
use Rattle.laws.specs.Transitions.{TrapMarked, HealGlobal, HealField, HealChanged, Finish, Store, StoreGlobal}
use Rattle.laws.specs.Transitions.{SetDatum, CopyReg, ClearReg, CrossMark, CrossMarkFor, CrossProtectFor}
use Rattle.laws.specs.Transitions.{CrossProtect, ScrubMoved, ScrubCopied, Park, StartMark, Pick, ScanField}
use Rattle.laws.specs.Transitions.{ScanEnd, ScanGlobal, EndMark, Protect, Copy, Release, Run, End, Then}
use Rattle.laws.proofs.Basics.{scanning, parked_none}
use Rattle.laws.proofs.Mutators.{store_keeps, set_datum_keeps, store_global_keeps, copy_register_keeps}
use Rattle.laws.proofs.Mutators.{clear_register_keeps, load_field_keeps, load_global_keeps}
use Rattle.laws.proofs.Barriers.{trap_moved_keeps, trap_copied_keeps, trap_marked_keeps}
use Rattle.laws.proofs.Barriers.{heal_global_keeps, heal_field_keeps, heal_changed_keeps}
use Rattle.laws.proofs.Barriers.{finish_keeps, scrub_moved_keeps, scrub_copied_keeps}
use Rattle.laws.proofs.Workers.{pick_keeps, scan_field_keeps, scan_end_keeps, scan_global_keeps}
use Rattle.laws.proofs.Workers.{copy_step_keeps, cross_mark_keeps, cross_protect_keeps}
use Rattle.laws.proofs.EndMark.{end_mark_keeps}
use Rattle.laws.proofs.StartMark.{start_mark_keeps}
use Rattle.laws.proofs.Protection.{protect_keeps, open_page_keeps}
use Rattle.laws.proofs.Release.{release_keeps}
use Rattle.laws.proofs.Births.{born_keeps}
use Rattle.laws.proofs.Parking.{set_parked_keeps}

pub transition_keeps : (w : AddressHeap) (p p0 : BirthHeap) (v : AddressHeap) (q q0 : BirthHeap) → Invariant w p p0
    → Transition w p p0 v q q0 → Invariant v q q0
transition_keeps w p p0 _ _ _ i (TakeFresh inside h) = open_page_keeps w p p0 i inside h
transition_keeps w p p0 _ _ _ i (New a o t r l xs ds m) = born_keeps w p p0 i a o t r l xs ds m
transition_keeps w p p0 _ _ _ i (Load t d r a o j u l f) =
    load_field_keeps w p p0 i t d r a u.bit o j u.word u.usable u.here l f
transition_keeps w p p0 _ _ _ i (LoadGlobal t d g n f) = load_global_keeps w p p0 i t d g n f
transition_keeps w p p0 _ _ _ i (TrapMoved t k a n b e h f) = trap_moved_keeps w p p0 i t k a n b e h f
transition_keeps w p p0 _ _ _ i (TrapCopied t k a n b o e h f g x) = trap_copied_keeps w p p0 i t k a n b o e h f g x
transition_keeps w p p0 _ _ _ i (TrapMarked t k e m) = trap_marked_keeps w p p0 i t k e m
transition_keeps w p p0 _ _ _ i (HealGlobal t k g e l h d) = heal_global_keeps w p p0 i t k g e l h d
transition_keeps w p p0 _ _ _ i (HealField t k a j o e l h f d) = heal_field_keeps w p p0 i t k a j o e l h f d
transition_keeps w p p0 _ _ _ i (HealChanged t k e) = heal_changed_keeps w p p0 i t k e
transition_keeps w p p0 _ _ _ i (Finish t k e d) = finish_keeps w p p0 i t k e d
transition_keeps w p p0 _ _ _ i (Store t r a o j s u l) =
    store_keeps w p p0 i t r a u.bit o j s u.word u.usable u.here l
transition_keeps w p p0 _ _ _ i (StoreGlobal t g s n) = store_global_keeps w p p0 i t g s n
transition_keeps w p p0 _ _ _ i (SetDatum t r a o j v u) =
    set_datum_keeps w p p0 i t r a u.bit o j v u.word u.usable u.here
transition_keeps w p p0 _ _ _ i (CopyReg t r s n) = copy_register_keeps w p p0 i t r s n
transition_keeps w p p0 _ _ _ i (ClearReg t r n) = clear_register_keeps w p p0 i t r n
transition_keeps w p p0 _ _ _ i (CrossMark t n f e b z x) = cross_mark_keeps w p p0 i t n f e b z x
transition_keeps w p p0 _ _ _ i (CrossMarkFor t n f e b z x) =
    cross_mark_keeps w p p0 i t n f e (parked_none w p p0 i t b) z x
transition_keeps w p p0 _ _ _ i (CrossProtectFor t f e b x) =
    cross_protect_keeps w p p0 i t f e (parked_none w p p0 i t b) x
transition_keeps w p p0 _ _ _ i (CrossProtect t f e b x) = cross_protect_keeps w p p0 i t f e b x
transition_keeps w p p0 _ _ _ i (ScrubMoved t r a n b e v f) = scrub_moved_keeps w p p0 i t r a n b e v f
transition_keeps w p p0 _ _ _ i (ScrubCopied t r a n b o e v f h g) = scrub_copied_keeps w p p0 i t r a n b o e v f h g
transition_keeps w p p0 _ _ _ i (Park t b n) = set_parked_keeps w p p0 i t b n
transition_keeps w p p0 _ _ _ i (StartMark c m) = start_mark_keeps w p p0 i c m
transition_keeps w p p0 _ _ _ i (Pick k a e h f) = pick_keeps w p p0 i k a (scanning w p p0 i e) h f
transition_keeps w p p0 _ _ _ i (ScanField k s o e f h l) = scan_field_keeps w p p0 i k s o (scanning w p p0 i e) f h l
transition_keeps w p p0 _ _ _ i (ScanEnd k s o e f h l) = scan_end_keeps w p p0 i k s o (scanning w p p0 i e) f h l
transition_keeps w p p0 _ _ _ i (ScanGlobal g n e) = scan_global_keeps w p p0 i g n (scanning w p p0 i e)
transition_keeps w p p0 _ _ _ i (EndMark lent m) = end_mark_keeps w p p0 lent i m
transition_keeps w p p0 _ _ _ i (Protect states entries c m) = protect_keeps w p p0 i states entries c m
transition_keeps w p p0 _ _ _ i (Copy a n o c e h) = copy_step_keeps w p p0 i a n o c e h
transition_keeps w p p0 _ _ _ i (Release inside m) = release_keeps w p p0 i inside m

pub run_keeps : (w : AddressHeap) (p p0 : BirthHeap) (v : AddressHeap) (q q0 : BirthHeap) → Invariant w p p0
    → Run w p p0 v q q0 → Invariant v q q0
run_keeps w p p0 _ _ _ i (End _ _ _) = i
run_keeps w p p0 v q q0 i (Then _ _ _ x y y0 _ _ _ d r) = run_keeps x y y0 v q q0 (transition_keeps w p p0 x y y0 i d) r
