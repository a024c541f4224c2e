-- Small texts with a fault, parts of lines, and the words of orders, worked out.
use Rattle.std.proofs.Common.{◌≡◌, ℕ, List, [], ◌∷◌, ◌++◌, None, refl}
use Rattle.std.specs.Prelude.{Result, Ok, Err, codes}
use Rattle.std.specs.Fmt.{decimal}
use Rattle.parser.specs.declared.fault.FaultKind.TheVariants as kinds
use Rattle.parser.specs.declared.fault.Flaw.{Flaw}
use Rattle.parser.specs.declared.heading.Sizes.{Sizes}
use Rattle.parser.specs.declared.order.Order.{Order}
use Rattle.parser.specs.declared.verbs.Verb.{Verb}
use Rattle.parser.specs.declared.verbs.Verb.TheVariants as verbs
use Rattle.model.specs.declared.steps.Actor.TheVariants.{Thread, Worker}
use Rattle.model.specs.declared.steps.Step.TheVariants as steps
use Rattle.parser.specs.Words.{flaw, word_at, word_or, fixed_at, is_number, capped_from, number_at, small_at, end_at}
use Rattle.parser.specs.Words.{point_parts, address_at}
use Rattle.parser.specs.Orders.{verb_in, order_of, numbers_by, numbers_at, operand_at, operands_at, order_at, step_of}
use Rattle.parser.specs.Headings.{page_size_at, memory_at, sizes_at, heap_in}
use Rattle.parser.specs.Verbs.{verb_of}
use Rattle.parser.specs.Spelling.{register_word, order_words}
use Rattle.parser.specs.Reading.{first_word, heap_line, line_in, finished, last_line, lines_in, script_in}

-- no bytes
nothing_at_all : script_in [] ≡ Err (record { line = 1; column = 1; kind = kinds.HeapLineExpected })
unfolding script_in lines_in last_line finished
nothing_at_all = refl

-- a comment, and a line that is no heap line
no_heap_line : script_in (codes "# a" ++ 10 ∷ codes "end" ++ 10 ∷ [])
    ≡ Err (record { line = 2; column = 1; kind = kinds.HeapLineExpected })
unfolding script_in lines_in line_in heap_line first_word word_at
no_heap_line = refl

-- a heap line that ends after its first word
no_words : script_in (codes "heap" ++ 10 ∷ [])
    ≡ Err (record { line = 1; column = 5; kind = kinds.UnknownWord })
unfolding script_in lines_in line_in heap_line first_word word_at heap_in sizes_at memory_at page_size_at fixed_at
    word_or
no_words = refl

-- a number with a leading zero
no_number : number_at (codes "words 016") 6 16 32768 ≡ Err (flaw 6 kinds.NumberExpected)
unfolding number_at word_or word_at is_number
no_number = refl

-- a number that is no page size
no_page_size : page_size_at (codes "words 24") 0 ≡ Err (flaw 6 kinds.NumberOutOfRange)
unfolding page_size_at fixed_at number_at word_or word_at is_number capped_from
no_page_size = refl

-- a comment without its newline
no_newline : script_in (codes "# a") ≡ Err (record { line = 1; column = 4; kind = kinds.NewlineExpected })
unfolding script_in lines_in last_line line_in
no_newline = refl

-- ---- the words of orders

abbrev order : Verb → ℕ → ℕ → ℕ → ℕ → Order
order verb first second third wide =
    order_of verb first second third wide []

give : order_words (order verbs.Give 0 0 0 0) ≡ codes "give" ∷ []
give = refl

take_some : (n : ℕ) → order_words (order verbs.Take n 0 0 0) ≡ codes "take" ∷ decimal n ∷ []
take_some n = refl

clear : (r : ℕ) → order_words (order verbs.Clear r 0 0 0) ≡ codes "clear" ∷ register_word r ∷ []
clear r = refl

move : (d s : ℕ) → order_words (order verbs.Move d s 0 0) ≡ codes "mov" ∷ register_word d ∷ register_word s ∷ []
move d s = refl

store_global : (g r : ℕ) → order_words (order verbs.StoreGlobal g r 0 0)
    ≡ codes "storeg" ∷ decimal g ∷ register_word r ∷ []
store_global g r = refl

store : (r i s : ℕ) → order_words (order verbs.Store r i s 0)
    ≡ codes "store" ∷ register_word r ∷ decimal i ∷ register_word s ∷ []
store r i s = refl

set_datum : (r i v : ℕ) → order_words (order verbs.Set r i 0 v)
    ≡ codes "set" ∷ register_word r ∷ decimal i ∷ decimal v ∷ []
set_datum r i v = refl

get : (d r i : ℕ) → order_words (order verbs.Get d r i 0)
    ≡ codes "get" ∷ register_word d ∷ register_word r ∷ decimal i ∷ []
get d r i = refl

-- page 3, offset 5
pick : order_words (order verbs.Pick 0 0 0 12884901893) ≡ codes "pick" ∷ (decimal 3 ++ (46 ∷ decimal 5)) ∷ []
pick = refl

scan_global : (g : ℕ) → order_words (order verbs.ScanGlobal g 0 0 0) ≡ codes "scang" ∷ decimal g ∷ []
scan_global g = refl

cross_for : (t : ℕ) → order_words (order verbs.CrossFor t 0 0 0) ≡ codes "crossfor" ∷ (116 ∷ decimal t) ∷ []
cross_for t = refl

drain : order_words (order verbs.Drain 0 0 0 0) ≡ codes "drain" ∷ []
drain = refl

copy : (p e : ℕ) → order_words (order verbs.Copy p e 0 0) ≡ codes "copy" ∷ decimal p ∷ decimal e ∷ []
copy p e = refl

release : (p : ℕ) → order_words (order verbs.Release p 0 0 0) ≡ codes "release" ∷ decimal p ∷ []
release p = refl

-- ---- lists of pages

-- pages in the order of the line
protect : order_words (order_of verbs.Protect 3 0 0 0 (1 ∷ 2 ∷ []))
    ≡ codes "protect" ∷ decimal 3 ∷ decimal 1 ∷ decimal 2 ∷ []
protect = refl

protected : step_of (order_of verbs.Protect 3 0 0 0 (1 ∷ 2 ∷ [])) ≡ steps.Protect (3 ∷ 1 ∷ 2 ∷ [])
protected = refl

some_sizes : Sizes
some_sizes = record {
  words = 16;
  frames = 1;
  pages = 1;
  threads = 1;
  workers = 1;
  registers = 1;
  globals = 0;
  births = 1;
  history = 1;
}

-- the order that a worker's words are read as
abbrev read : List ℕ → Result Order Flaw
read line = order_at some_sizes line (Worker 0) 0

one_page : read (codes "protect 1") ≡ Ok (order_of verbs.Protect 1 0 0 0 [])
unfolding order_at operands_at operand_at numbers_at numbers_by small_at number_at word_or word_at verb_of is_number
    capped_from end_at
one_page = refl

three_pages : read (codes "protect 3 1 2") ≡ Ok (order_of verbs.Protect 3 0 0 0 (1 ∷ 2 ∷ []))
unfolding order_at operands_at operand_at numbers_at numbers_by small_at number_at word_or word_at verb_of is_number
    capped_from end_at
three_pages = refl

-- without a page, with an empty word after the pages, and with pages that are no numbers of 32 bits
no_page : read (codes "protect") ≡ Err (flaw 7 kinds.NumberExpected)
unfolding order_at operands_at operand_at small_at number_at word_or word_at verb_of
no_page = refl

empty_page : read (codes "protect 1 ") ≡ Err (flaw 10 kinds.NumberExpected)
unfolding order_at operands_at operand_at numbers_at numbers_by small_at number_at word_or word_at verb_of is_number
    capped_from
empty_page = refl

malformed_page : read (codes "protect 1 02") ≡ Err (flaw 10 kinds.NumberExpected)
unfolding order_at operands_at operand_at numbers_at numbers_by small_at number_at word_or word_at verb_of is_number
    capped_from
malformed_page = refl

large_page : read (codes "protect 1 2 4294967296") ≡ Err (flaw 12 kinds.NumberOutOfRange)
unfolding order_at operands_at operand_at numbers_at numbers_by small_at number_at word_or word_at verb_of is_number
    capped_from
large_page = refl

-- other orders end after their operands
one_word_more : read (codes "release 1 2") ≡ Err (flaw 10 kinds.EndOfLineExpected)
unfolding order_at operands_at operand_at small_at number_at word_or word_at verb_of is_number capped_from end_at
one_word_more = refl

-- an address, and words that are no address
address : address_at (codes "pick 3.5") 5 16 ≡ Ok (12884901893, 9)
unfolding address_at word_or word_at point_parts is_number capped_from
address = refl

no_offset : address_at (codes "pick 3.16") 5 16 ≡ Err (flaw 5 kinds.NumberOutOfRange)
unfolding address_at word_or word_at point_parts is_number capped_from
no_offset = refl

no_point : address_at (codes "pick 3") 5 16 ≡ Err (flaw 5 kinds.UnknownWord)
unfolding address_at word_or word_at point_parts is_number
no_point = refl

two_points : address_at (codes "pick 3.5.1") 5 16 ≡ Err (flaw 5 kinds.UnknownWord)
unfolding address_at word_or word_at point_parts is_number
two_points = refl

-- a worker's command isn't a thread's, nor the other way round
not_for_thread : verb_in (Thread 0) (codes "mark") ≡ None
unfolding verb_of
not_for_thread = refl

not_for_worker : verb_in (Worker 0) (codes "take") ≡ None
unfolding verb_of
not_for_worker = refl

-- no verb has this word
no_verb : verb_of (codes "getx") ≡ None
unfolding verb_of
no_verb = refl
