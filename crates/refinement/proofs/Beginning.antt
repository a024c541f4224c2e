-- The first heap represents the first reference model.
use Rattle.std.proofs.Common.{nat_lt, ◌≡◌, ◌≢◌, ◌⊎◌, inl, inr, ℕ, zero, suc, ◌-◌, ◌/◌, ◌%◌, Bool, false, List}
use Rattle.std.proofs.Common.{[], length, get_or, replicate, Option, Some, None, refl, sym, ◌∙◌, ap, subst}
use mathlib.Core.Path.{fun_ext}
use Rattle.std.specs.List.{slice_get}
use Rattle.std.specs.Option.{option_map}
use Rattle.std.proofs.Math.ListN.{length-replicate}
use Rattle.std.proofs.lemmas.Bool.{cases_eq, false≢true}
use Rattle.std.proofs.lemmas.Option.{none-some}
use Rattle.model.specs.declared.config.Config.{Config}
use Rattle.model.specs.declared.records.Global.{Global}
use Rattle.model.specs.declared.records.PageState.TheVariants.{Unused}
use Rattle.model.specs.declared.records.Forwarding.{Forwarding}
use Rattle.model.specs.Stores.{first_store, record_count, blank_page, page_at, state_at, state_in, words_at}
use Rattle.model.specs.States.{HeapState, Reference, flat}
use Rattle.model.specs.First.{first_heap, blank_rows, blank_thread}
use Rattle.model.specs.Threads.{register_in, buffer_in, has_crossed, is_parked_in}
use Rattle.model.specs.Registers.{register_of}
use Rattle.model.specs.Plain.{PlainThread, plain_start, name_of, name_in, pending_in}
use Rattle.model.proofs.Lists.{each_replicate}
use Rattle.page.proofs.Keeping.{page_at_record, page_at_zero}
use Rattle.laws.specs.AddressHeap.{Null, NoEntry}
use Rattle.laws.specs.Invariant.{Invariant}
use Rattle.laws.specs.First.{first, plain_first}
use Rattle.laws.proofs.First.{first_holds}
use Rattle.model.specs.Bits.{of_page, bit_at}
use Rattle.refinement.specs.Worlds.{world_of, as_word, object_at, object_in}
use Rattle.refinement.specs.Worlds.{entry_at, barrier_in, scan_in, global_in, todo_in}
use Rattle.refinement.specs.PlainHeaps.{births_of, as_pair}
use Rattle.model.specs.Holding.{AreRowsOf}
use Rattle.refinement.specs.Claims.{IsLaid, HasGiven, Claim, OfObject}
use Rattle.model.proofs.Tables.{first_rows, first_sides}
use Rattle.refinement.specs.Claims.{OfBuffer, OfPlan, OfEnd, extent, end_extent, sized_extent}
use Rattle.refinement.specs.Claims.{planned_extent, size_at, buffer_extent, object_size}
use Rattle.refword.specs.Words.{IsWord}
use Rattle.refinement.specs.Roots.{HoldsWords}
use Rattle.refinement.specs.Standing.{Holds}
use Rattle.refinement.proofs.Carrying.{moved}

-- a read of a list of equal elements
read_of : {X B : Type 0} (P : Option X → B) (n : ℕ) (x : X) → P None ≡ P (Some x) → (i : ℕ)
    → P (slice_get (replicate n x) i) ≡ P (Some x)
read_of P zero x e i = e
read_of P (suc n) x e zero = refl
read_of P (suc n) x e (suc i) = read_of P n x e i

no_side : {X : Type 0} (n i : ℕ) → get_or (replicate {A = List X} n []) i [] ≡ []
no_side zero i = refl
no_side (suc n) zero = refl
no_side (suc n) (suc i) = no_side n i

clear_page : (n page o : ℕ) → get_or (of_page (replicate {A = List Bool} n []) page) o false ≡ false
clear_page n zero o = refl
clear_page n (suc i) o = ap (λ r. get_or r o false) (no_side n i)

no_entry : (n page o : ℕ) → entry_at (of_page (replicate {A = List Forwarding} n []) page) o ≡ NoEntry
no_entry n zero o = refl
no_entry n (suc i) o = ap (λ s. entry_at s o) (no_side n i)

module _ (c : Config) where
  abbrev h : HeapState
  h = first_heap c

  no_bit : (a : ℕ) → bit_at (blank_rows c) c.words a ≡ false
  no_bit a = clear_page (record_count c.frames c.pages) (a / c.words) (a % c.words)

  page_none : (n : ℕ) → state_in (page_at (first_store c.words c.frames c.pages) n) ≡ Unused
  unfolding first_store
  page_none n = by_zero (cases_eq n 0)
    where
      by_zero : (n ≡ 0) ⊎ (n ≢ 0) → state_in (page_at (first_store c.words c.frames c.pages) n) ≡ Unused
      by_zero (inl e) = ap state_in (page_at_zero (first_store c.words c.frames c.pages) n e)
      by_zero (inr e) = ap state_in (page_at_record (first_store c.words c.frames c.pages) n e)
          ∙ read_of state_in (record_count c.frames c.pages) blank_page refl (n - 1)

  end_none : (n : ℕ) → end_extent c.words n (page_at (first_store c.words c.frames c.pages) n) ≡ None
  unfolding first_store
  end_none n = by_zero (cases_eq n 0)
    where
      by_zero : (n ≡ 0) ⊎ (n ≢ 0) → end_extent c.words n (page_at (first_store c.words c.frames c.pages) n) ≡ None
      by_zero (inl e) = ap (end_extent c.words n) (page_at_zero (first_store c.words c.frames c.pages) n e)
      by_zero (inr e) = ap (end_extent c.words n) (page_at_record (first_store c.words c.frames c.pages) n e)
          ∙ read_of (end_extent c.words n) (record_count c.frames c.pages) blank_page refl (n - 1)

  object_none : (a : ℕ) → object_at h a ≡ None
  unfolding first_heap first_store
  object_none a = ap (λ b. object_in c.layouts b (words_at h.store (a / c.words)) (a % c.words)) (no_bit a)
      ∙ unset (words_at h.store (a / c.words))
    where
      unset : (y : Option (List ℕ)) → object_in c.layouts false y (a % c.words) ≡ None
      unset None = refl
      unset (Some y) = refl

  entries : (a : ℕ) → (world_of h).side_entry a ≡ NoEntry
  unfolding first_heap first_store
  entries a = no_entry (record_count c.frames c.pages) (a / c.words) (a % c.words)

  extents : (d : Claim) → extent h d ≡ None
  unfolding first_heap first_store
  extents (OfObject a) = ap (λ o. option_map (sized_extent a) (option_map object_size o)) (object_none a)
  extents (OfBuffer t) =
      read_of (λ o. option_map (buffer_extent c.words) (buffer_in o)) c.threads (blank_thread c.registers) refl t
  extents (OfPlan a) = ap (λ e. planned_extent e (size_at h a)) (entries a)
  extents (OfEnd n) = end_none n

  first_world : world_of h ≡ first (λ g. nat_lt g c.globals)
  unfolding first_heap first_store register_of state_at
  first_world = λ z. record (first (λ g. nat_lt g c.globals)) {
    is_global = fun_ext
        (λ g. ap (nat_lt g) (length-replicate {A = Global} c.globals (record { word = None; todo = false }))) z;
    page_state = fun_ext (λ a. page_none (a / c.words)) z;
    object_at = fun_ext object_none z;
    side_entry = fun_ext entries z;
    live = fun_ext no_bit z;
    marked = fun_ext no_bit z;
    todo = fun_ext no_bit z;
    register = fun_ext (λ t. fun_ext (registers t)) z;
    crossed = fun_ext (read_of has_crossed c.threads (blank_thread c.registers) refl) z;
    parked = fun_ext (read_of is_parked_in c.threads (blank_thread c.registers) refl) z;
    barrier = fun_ext (read_of barrier_in c.threads (blank_thread c.registers) refl) z;
    scan = fun_ext (read_of scan_in c.workers None refl) z;
    global = fun_ext (read_of global_in c.globals (record { word = None; todo = false }) refl) z;
    global_todo = fun_ext (read_of todo_in c.globals (record { word = None; todo = false }) refl) z;
  }
    where
      nulls : (n r : ℕ) → as_word (flat (slice_get (replicate {A = Reference} n None) r)) ≡ Null
      nulls n r = read_of (λ o. as_word (flat o)) n None refl r

      registers : (t r : ℕ)
          → as_word (register_in (slice_get (replicate c.threads (blank_thread c.registers)) t) r) ≡ Null
      registers t r =
          read_of (λ o. as_word (register_in o r)) c.threads (blank_thread c.registers) (sym (nulls c.registers r)) t
          ∙ nulls c.registers r

  first_births : births_of (plain_start c) ≡ plain_first
  unfolding plain_start name_of
  first_births = λ z. record plain_first {
    register = fun_ext (λ t. fun_ext (registers t)) z;
    pending = fun_ext (read_of (λ o. option_map as_pair (pending_in o)) c.threads (record {
      registers = replicate c.registers None;
      pending = None;
    }) refl) z;
    global = fun_ext (read_of flat c.globals None refl) z;
  }
    where
      nones : (n r : ℕ) → flat (slice_get (replicate {A = Option ℕ} n None) r) ≡ None
      nones n r = read_of flat n None refl r

      registers : (t r : ℕ) → name_in (slice_get (replicate {A = PlainThread} c.threads (record {
        registers = replicate c.registers None;
        pending = None;
      })) t) r ≡ None
      registers t r =
          read_of (λ o. name_in o r) c.threads (record { registers = replicate c.registers None; pending = None })
          (sym (nones c.registers r)) t ∙ nones c.registers r

  rows : AreRowsOf h.store (blank_rows c)
  unfolding first_heap first_store
  rows = first_rows c

  first_laid : IsLaid h
  unfolding first_heap first_store state_at
  first_laid = record {
    starts = rows;
    live = rows;
    mark = rows;
    todo = rows;
    sides = let r = first_sides c in record {
      pages = r.pages ∙ sym (length-replicate (record_count c.frames c.pages) blank_page);
      rising = r.rising;
    };
    registers = each_replicate (λ t. length t.registers ≡ c.registers) c.threads (blank_thread c.registers)
        (length-replicate c.registers None);
    objects = λ a e m. absurd (false≢true (sym (no_bit a) ∙ e));
    apart = λ d e x y f g. absurd (none-some _ (sym (extents d) ∙ f));
    planned = λ a n o e f. absurd (none-some _ (sym (object_none a) ∙ f));
    live_objects = λ a e m. absurd (false≢true (sym (no_bit a) ∙ e));
    unused = λ a e. no_bit a;
  }

  pub first_stands : Holds h (plain_start c) (plain_start c)
  unfolding first_heap first_store plain_start
  first_stands = record {
    sizes = record {
      words = refl;
      frames = length-replicate c.frames _;
      pages = refl;
      threads = length-replicate c.threads _;
      workers = length-replicate c.workers _;
      globals = length-replicate c.globals _;
    };
    laid = first_laid;
    given = each_replicate HasGiven (record_count c.frames c.pages) blank_page (λ e. absurd (false≢true e));
    words = record {
      threads = each_replicate (HoldsWords c.registers) c.threads (blank_thread c.registers) (record {
        registers_hold = each_replicate IsWord c.registers None tt;
        barrier = tt;
      });
      globals = each_replicate (λ g. IsWord g.word) c.globals (record { word = None; todo = false }) tt;
    };
    roots = record {
      threads = length-replicate c.threads _ ∙ sym (length-replicate c.threads _);
      registers =
          each_replicate (λ t. length t.registers ≡ c.registers) c.threads _ (length-replicate c.registers None);
      globals = length-replicate c.globals _ ∙ sym (length-replicate c.globals _);
    };
    invariant = subst (λ q. Invariant (world_of h) (births_of (plain_start c)) q)
        (sym first_births) (moved (first (λ g. nat_lt g c.globals)) (world_of h) plain_first
        (births_of (plain_start c)) plain_first first_world first_births (first_holds (λ g. nat_lt g c.globals)));
  }
