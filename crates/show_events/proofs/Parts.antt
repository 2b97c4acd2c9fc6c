-- The parts of a page, one behind the other.
use Rattle.std.proofs.Common.{ℕ, zero, suc, List, [], ◌++◌, Option, None, Some, All, sym, subst, ◌∙◌, arith}
use Rattle.std.proofs.lemmas.List.Elements.{All-append, All-nil, All-push}
use Rattle.std.specs.Io.KnownBytes.{Appends, Keeps}
use Rattle.replay_forms.proofs.Written.{appends_then}
use Rattle.show_events.specs.Lines.{IsLine, AddsLines}
use Rattle.show_events.specs.Page.{IsNoTag}

line_end : IsNoTag 10
line_end = omega arith

line_tags : (text : List ℕ) → IsLine text → All IsNoTag text
line_tags text (body, tame, is) =
    let within : All IsNoTag body = λ k d lt. (tame k d lt).0 in
    subst (λ (t : List ℕ). All IsNoTag t) (sym is) (All-push IsNoTag body 10 within line_end)

pub events_text : (n : ℕ) (a b : Option (List ℕ)) → AddsLines n a b → (text : List ℕ) × All IsNoTag text × Appends a b text
events_text zero a b p = ([], All-nil IsNoTag, p)
events_text (suc n) a b (middle, p, (text, line, wrote)) =
    let front = events_text n a middle p in
    (front.0 ++ text, All-append IsNoTag front.0 text front.1 (line_tags text line), appends_then a middle b front.0 text front.2 wrote)

keeps_behind : (a b c : Option (List ℕ)) (x : List ℕ) → Appends a b x → Keeps b c → Appends a c x
keeps_behind None b c x p q = tt
keeps_behind (Some a) None c x p q = absurd p
keeps_behind (Some a) (Some b) None x p q = absurd q
keeps_behind (Some a) (Some b) (Some c) x p q = q ∙ p

pub page_text : (a b c d e f g h i j : Option (List ℕ)) (s t o r n v k w : List ℕ) → Appends a b s → Appends b c t
    → Appends c d o → Appends d e r → Appends e f n → Appends f g v → Appends g h k → Appends h i w → Keeps i j
    → Appends a j ((s ++ t) ++ (o ++ (r ++ (n ++ (v ++ (k ++ w))))))
page_text a b c d e f g h i j s t o r n v k w ps pt po pr pn pv pk pw last =
    let events : Appends e i (n ++ (v ++ (k ++ w))) =
    appends_then e f i n _ pn (appends_then f g i v (k ++ w) pv (appends_then g h i k w pk pw)) in
    let run : Appends c i (o ++ (r ++ (n ++ (v ++ (k ++ w))))) = appends_then c d i o _ po (appends_then d e i r _ pr events) in
    keeps_behind a i j _ (appends_then a c i (s ++ t) _ (appends_then a b c s t ps pt) run) last
