use Rattle.std.proofs.Common.{◌≡◌, rules, Ok, Err, sym, refl, ap, ◌∙◌}
use Rattle.sheets.specs.Stored.{held, extent_of}
use Rattle.sheets.proofs.Exact.{read_unique, read_not_refused}
use Rattle.sheets.proofs.Outcomes.{refused_unique}
use Rattle.load.specs.Load.{Sized, faulty}
use Rattle.load.proofs.Sizes.{same_then, same_zeroed, zeroed_same, stored_same, zero_empty}
use Rattle.load.proofs.load.load.Goals as goal

-- the stores that come back from the loan are those that were read into, which `search` finds
back : {X : Type 0} {a b c : X} → b ≡ c → a ≡ b → a ≡ c
back q p = p ∙ q

pub fields-requires : goal.fields-requires
fields-requires c =
    let z = same_zeroed (held c.args.stores.now) (held c.clear.new.stores) c.clear.ensures in
    record {
      short = c.if-file-gt-FILE.false;
      blank = record { stores = c.clear.ensures ∙ sym (zeroed_same z) ∙ zero_empty (held c.clear.new.stores); extent = search rules };
    }

pub returns-in-Ok : goal.returns-in-Ok
returns-in-Ok c =
    let z = same_zeroed (held c.args.stores.now) (held c.clear.new.stores) c.clear.ensures in
    let k = c.in-Ok.ensures in
    let sized : Sized c.args.file.now (held c.args.stores.now) = record { short = c.if-file-gt-FILE.false; enough = c.if-not-are_enough.ensures.0 refl } in
    record {
      loads = record {
        sized = sized;
        sheet = k.decided.0;
        read = k.decided.1;
        extent = k.decided.2.extent;
        stores = back (k.decided.2.stores ∙ stored_same k.decided.0 (same_then z k.kept.sizes)) (search rules);
      };
      exact = record {
        reads = λ _ s r. ap Ok (k.decided.2.extent ∙ ap extent_of (read_unique c.args.file.now k.decided.0 s k.decided.1 r));
        refuses = λ _ e r. absurd (read_not_refused c.args.file.now k.decided.0 e k.decided.1 r);
        unsized = λ n. absurd (n sized);
      };
      one = read_unique c.args.file.now;
    }

pub returns-in-Err : goal.returns-in-Err
returns-in-Err c =
    let z = same_zeroed (held c.args.stores.now) (held c.clear.new.stores) c.clear.ensures in
    let k = c.in-Err.ensures in
    let sized : Sized c.args.file.now (held c.args.stores.now) = record { short = c.if-file-gt-FILE.false; enough = c.if-not-are_enough.ensures.0 refl } in
    record {
      loads = faulty sized k.decided (c.clear-in-Err.ensures ∙ back (zeroed_same (same_then z k.kept.sizes)) (search rules));
      exact = record {
        reads = λ _ s r. absurd (read_not_refused c.args.file.now s c.in-Err.fault r k.decided);
        refuses = λ _ e r. ap Err (refused_unique c.args.file.now c.in-Err.fault e k.decided r);
        unsized = λ n. absurd (n sized);
      };
      one = read_unique c.args.file.now;
    }
