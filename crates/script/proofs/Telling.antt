-- Texts written one after another.
use Rattle.std.proofs.Common.{◌≡◌, ℕ, ◌+◌, ◌<◌, ◌≤◌, List, [], ◌∷◌, ◌++◌, length, drop, get_or}
use Rattle.std.proofs.Common.{slice_get, Option, Some, None, IfSome}
use Rattle.std.proofs.Common.{refl, ap, sym, subst, ◌∙◌, add-one, drop-cons, append_assoc, append-nil, not-suc-le-zero}
use Rattle.std.proofs.lemmas.List.{drop_all}
use Rattle.std.proofs.lemmas.Option.{slice_get-get_or}
use Rattle.model.specs.declared.steps.Answer.{Answer}
use Rattle.std.specs.Io.KnownBytes.{Appends}
use Rattle.entries.specs.declared.entry.Entry.{Entry}
use Rattle.cycle.specs.Books.{BookState, Reply}
use Rattle.parser.specs.declared.order.Command.{Command}
use Rattle.reporting.specs.Texts.{Leads}
use Rattle.reporting.proofs.Leading.{leads_step, leads_end}
use Rattle.script.specs.Output.{lines_text, command_line, book_after, done}

split : {X : Type 0} (xs : List X) (i : ℕ) (d : X) → i < length xs → drop i xs ≡ get_or xs i d ∷ drop (i + 1) xs
split xs i d h = rw (add-one, drop-cons xs i d) refl

-- commands

lines_next : (n i : ℕ) (b : BookState) (cs : List Command) (d : Command)
    → i < length cs → lines_text n b (drop i cs) ≡ command_line n (get_or cs i d) (done b (get_or cs i d)).replies
    ++ lines_text (n + 1) (done b (get_or cs i d)).book (drop (i + 1) cs)
unfolding lines_text
lines_next n i b cs d h = rw (split cs i d h) refl

line_told : (n i : ℕ) (b e : BookState) (cs : List Command)
    (d : Command) (replies : List Reply) (old c new : Option (List ℕ)) (all : List ℕ)
    → Leads old c (lines_text n b (drop i cs)) all → i < length cs → replies ≡ (done b (get_or cs i d)).replies
    → e ≡ (done b (get_or cs i d)).book → Appends c new (command_line n (get_or cs i d) replies)
    → Leads old new (lines_text (n + 1) e (drop (i + 1) cs)) all
line_told n i b e cs d replies old c new all h le r k a =
    let there : Leads old c (command_line n (get_or cs i d) replies ++ lines_text (n + 1) e (drop (i + 1) cs)) all =
    rw (r, k, ← lines_next n i b cs d le) h in
    leads_step old c new _ _ all there a

-- the same for the command that a loop borrows
pub line_item : (n i : ℕ) (b e : BookState) (cs : List Command) (d : Command) (replies : List Reply)
    (old c new : Option (List ℕ)) (all : List ℕ) → Leads old c (lines_text n b (drop i cs)) all → i < length cs
    → d ≡ get_or cs i d → replies ≡ (done b d).replies → e ≡ (done b d).book → Appends c new (command_line n d replies)
    → Leads old new (lines_text (n + 1) e (drop (i + 1) cs)) all
line_item n i b e cs d replies old c new all h le q r k a =
    line_told n i b e cs d replies old c new all h le (r ∙ ap (λ (x : Command). (done b x).replies) q)
    (k ∙ ap (λ (x : Command). (done b x).book) q)
    (subst (λ (x : Command). Appends c new (command_line n x replies)) q a)

lines_end : (n i : ℕ) (b : BookState) (cs : List Command) → length cs ≤ i → lines_text n b (drop i cs) ≡ []
unfolding lines_text
lines_end n i b cs h = rw (drop_all i cs h) refl

pub lines_told : (n i : ℕ) (b : BookState) (cs : List Command) (old c : Option (List ℕ)) (all : List ℕ)
    → Leads old c (lines_text n b (drop i cs)) all → length cs ≤ i → Appends old c all
lines_told n i b cs old c all h le =
    let there : Leads old c [] all = rw (← lines_end n i b cs le) h in leads_end old c all there

book_next : (i : ℕ) (b e f : BookState) (cs : List Command) (d : Command) → book_after b (drop i cs) ≡ f
    → i < length cs → e ≡ (done b (get_or cs i d)).book → book_after e (drop (i + 1) cs) ≡ f
unfolding book_after
book_next i b e f cs d h le k = let there : book_after b (drop i cs) ≡ book_after e (drop (i + 1) cs) =
    rw (split cs i d le, k) refl in sym there ∙ h

pub book_item : (i : ℕ) (b e f : BookState) (cs : List Command) (d : Command) → book_after b (drop i cs) ≡ f
    → i < length cs → d ≡ get_or cs i d → e ≡ (done b d).book → book_after e (drop (i + 1) cs) ≡ f
book_item i b e f cs d h le q k = book_next i b e f cs d h le (k ∙ ap (λ (x : Command). (done b x).book) q)

pub book_end : (i : ℕ) (b f : BookState) (cs : List Command) → book_after b (drop i cs) ≡ f → length cs ≤ i → b ≡ f
unfolding book_after
book_end i b f cs h le = let there : book_after b (drop i cs) ≡ b = rw (drop_all i cs le) refl in sym there ∙ h
