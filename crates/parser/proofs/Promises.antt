-- The promises of `parse`, by what reading defines.
use Rattle.parser.proofs.Names.{List, None, Option, Some, ap, subst, sym, ℕ, ◌∙◌, ◌≡◌, slice_split, is_some, Ok}
use Rattle.parser.proofs.Names.{Result, ScriptValue, newline, script_in, IsReadOf, ParsedScript, IsScript, Spells}
use Rattle.parser.proofs.Names.{IsFirstSpot, first_spot, spots_in, LineFault, ParseFault, Sought, Spots}
use Rattle.std.proofs.Common.{IfSome}
use Rattle.parser.specs.Scripts.{IsParsed, script_alone}
use Rattle.parser.proofs.ScriptIsSpelled.{read_is_spelled}
use Rattle.parser.proofs.SpelledIsRead.{spelled_is_read}
use Rattle.parser.proofs.SpotPlaces.{spot_stands, text_sought}
use Rattle.parser.specs.declared.spots.Sought.TheVariants as sought

-- what is read is within all limits
pub read_valid : (bytes : List ℕ) (s : ScriptValue) → script_in bytes ≡ Ok s → IsScript s
read_valid bytes s h = (read_is_spelled bytes s h).script

-- what is read is parsed, with the spots of the bytes
pub read_parsed : (bytes : List ℕ) (s : ParsedScript) → script_in bytes ≡ Ok (script_alone s)
    → s.spots ≡ spots_in bytes → IsParsed s
unfolding spots_in
read_parsed bytes s h e =
    let all = read_is_spelled bytes (script_alone s) h in
    record {
      script = all.script;
      cycle = ap (λ (x : Spots). is_some x.cycle) e
          ∙ text_sought sought.Cycle bytes (script_alone s) all.script all.spelled;
      other = ap (λ (x : Spots). is_some x.other) e
          ∙ text_sought sought.Other bytes (script_alone s) all.script all.spelled;
    }

-- a spot that is found in a text that spells a script is the first one
spot_first : (k : Sought) (bytes : List ℕ) (s : ParsedScript) → script_in bytes ≡ Ok (script_alone s)
    → (o : Option LineFault) → first_spot k (slice_split newline bytes) ≡ o → IfSome o (IsFirstSpot k s.config bytes)
spot_first k bytes s h None e = tt
spot_first k bytes s h (Some fault) e =
    let all = read_is_spelled bytes (script_alone s) h in
    spot_stands k bytes (script_alone s) fault all.script all.spelled e

pub cycle_first : (bytes : List ℕ) (s : ParsedScript) → script_in bytes ≡ Ok (script_alone s) → s.spots ≡ spots_in bytes
    → IfSome s.spots.cycle (IsFirstSpot sought.Cycle s.config bytes)
unfolding spots_in
cycle_first bytes s h e =
    spot_first sought.Cycle bytes s h s.spots.cycle (ap (λ (x : Spots). x.cycle) (sym e))

pub other_first : (bytes : List ℕ) (s : ParsedScript) → script_in bytes ≡ Ok (script_alone s) → s.spots ≡ spots_in bytes
    → IfSome s.spots.other (IsFirstSpot sought.Other s.config bytes)
unfolding spots_in
other_first bytes s h e =
    spot_first sought.Other bytes s h s.spots.other (ap (λ (x : Spots). x.other) (sym e))

-- what is read is spelled so
pub read_spelled : (bytes : List ℕ) (s : ScriptValue) → script_in bytes ≡ Ok s → Spells bytes s
read_spelled bytes s h = (read_is_spelled bytes s h).spelled

-- what is spelled is read
pub spelled_read : (bytes : List ℕ) (r : Result ParsedScript ParseFault) (s : ScriptValue)
    → IsReadOf r (script_in bytes) → IsScript s → Spells bytes s → IsReadOf r (Ok s)
spelled_read bytes r s h valid spells = subst (λ x. IsReadOf r x) (spelled_is_read bytes s valid spells) h

ok_is : (s t : ScriptValue) (read : Result ScriptValue LineFault) → read ≡ Ok s → read ≡ Ok t → s ≡ t
ok_is s t read p q = cc

-- two scripts that the same bytes spell are equal
pub spelled_once : (bytes : List ℕ) (s t : ScriptValue) → IsScript s → IsScript t → Spells bytes s → Spells bytes t
    → s ≡ t
spelled_once bytes s t s_valid t_valid s_spelled t_spelled =
    ok_is s t (script_in bytes) (spelled_is_read bytes s s_valid s_spelled) (spelled_is_read bytes t t_valid t_spelled)
