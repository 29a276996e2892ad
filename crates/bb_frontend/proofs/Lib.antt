pub mod TextDesignLaws
