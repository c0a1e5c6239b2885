use native.Mathlib.Omega.{arith}
use borrow.Author.Rules.{rules}
use Rattle.log_changes.proofs.Values.{create-room, link-room, rename-room, create-tried, remove-tried, link-tried, rename-tried, exchange-tried, unlisted-tried}
use Rattle.log_changes.proofs.try_field.Goals as goal

pub slice_bounds-try_create-count : goal.slice_bounds-try_create-count
slice_bounds-try_create-count c =
    let a = c.args in omega (arith, create-room a.tag a.value.now _ _ c.read_field-seen.ensures c.in-Create.is)

pub slice_bounds-try_create-start : goal.slice_bounds-try_create-start
slice_bounds-try_create-start c =
    let a = c.args in omega (arith, create-room a.tag a.value.now _ _ c.read_field-seen.ensures c.in-Create.is)

pub slice_bounds-try_link-count : goal.slice_bounds-try_link-count
slice_bounds-try_link-count c =
    let a = c.args in omega (arith, link-room a.tag a.value.now _ _ c.read_field-seen.ensures c.in-Link.is)

pub slice_bounds-try_link-start : goal.slice_bounds-try_link-start
slice_bounds-try_link-start c =
    let a = c.args in omega (arith, link-room a.tag a.value.now _ _ c.read_field-seen.ensures c.in-Link.is)

pub slice_bounds-try_rename-count : goal.slice_bounds-try_rename-count
slice_bounds-try_rename-count c =
    let a = c.args in omega (arith, rename-room a.tag a.value.now _ _ c.read_field-seen.ensures c.in-Rename.is)

pub slice_bounds-try_rename-start : goal.slice_bounds-try_rename-start
slice_bounds-try_rename-start c =
    let a = c.args in omega (arith, rename-room a.tag a.value.now _ _ c.read_field-seen.ensures c.in-Rename.is)

pub returns-in-Create : goal.returns-in-Create
returns-in-Create c =
    let a = c.args in
    create-tried a.tag a.value.now _ _ _ c.read_field-seen.ensures c.in-Create.is c.try_create.ensures

pub returns-in-Remove : goal.returns-in-Remove
returns-in-Remove c =
    let a = c.args in
    remove-tried a.tag a.value.now _ _ c.read_field-seen.ensures c.in-Remove.is (c.try_remove.ensures a.next.now)

pub returns-in-Link : goal.returns-in-Link
returns-in-Link c =
    let a = c.args in
    link-tried a.tag a.value.now _ _ _ c.read_field-seen.ensures c.in-Link.is (c.try_link.ensures a.next.now)

pub returns-in-Rename : goal.returns-in-Rename
returns-in-Rename c =
    let a = c.args in
    rename-tried a.tag a.value.now _ _ _ c.read_field-seen.ensures c.in-Rename.is (c.try_rename.ensures a.next.now)

pub returns-in-Exchange : goal.returns-in-Exchange
returns-in-Exchange c =
    let a = c.args in
    exchange-tried a.tag a.value.now _ _ _ _ c.read_field-seen.ensures c.in-Exchange.is (c.try_exchange.ensures a.next.now)

pub returns-in-Unlisted : goal.returns-in-Unlisted
returns-in-Unlisted c =
    let a = c.args in unlisted-tried a.tag a.value.now _ c.read_field-seen.ensures c.in-Unlisted.is
